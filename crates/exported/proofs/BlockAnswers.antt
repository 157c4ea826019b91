-- The numbers of a block's answer have room in four bytes each: the bits used are at most U, each frame placed has bits, and the added zeros are among the bits
-- used.
use Prim.Native.Nat.{ℕ, ◌^◌, ◌≤◌, ◌<◌}
use mathlib.Core.List.{List, [], ◌∷◌, ◌++◌}
use mathlib.Core.Path.{◌≡◌}
use native.Mathlib.Omega.{arith}
use lib.ListN.{length, length-append, length-map}
use Rattle.hdlc.proofs.Ending.{length-flag}
use Rattle.packet.specs.Stores.{Stores}
use Rattle.offering.specs.declared.Sender.{Sender}
use Rattle.sender.specs.Blocks.{frames_bits, flagged_frames, PlacedFrame, placed_packets, System, system_packets, enable_bits, block_filled, block_packets, used_bits, block_refusal}
use Rattle.sender.specs.BlockCalls.{frames_placed, bits_used, zeros_added}
use Rattle.sender.proofs.BlockRefusals.{accepted}
use Rattle.sender.proofs.UsedAtMostU.{used_at_most_U}
use Rattle.sender.proofs.UsedBits.{added_within}

-- a frame has a flag after it
frames_bits_long : (ps : List (List ℕ)) → length ps ≤ length (frames_bits ps)
unfolding frames_bits
frames_bits_long [] = omega arith
frames_bits_long (p ∷ ps) = rw (length-append, length-append) (omega (arith, length-flag, frames_bits_long ps))

placed_at_most_used : (s : Sender) (store : Stores) (u : ℕ) (y : System) → frames_placed s store u y ≤ bits_used s store u y
unfolding used_bits flagged_frames block_packets placed_packets
placed_at_most_used s store u y =
    let before = system_packets y in
    let frames = (block_filled s store u before (enable_bits y)).frames in
    let same : length (placed_packets frames) ≡ length frames = length-map frames (λ (f : PlacedFrame). f.packet) in
    rw length-append
    (omega (arith, frames_bits_long (before ++ placed_packets frames), length-append before (placed_packets frames), same))

module _ (s : Sender) (store : Stores) (buffer : List ℕ) (n u : ℕ) (y : System) (e : block_refusal s store buffer n u y ≡ 0) where
  pub used_fits : bits_used s store u y < 2 ^ 32
  used_fits =
      let a = accepted s store buffer n u y e in
      omega (arith, used_at_most_U s store buffer n u y e, a.used, a.most)

  pub placed_fits : frames_placed s store u y < 2 ^ 32
  placed_fits = omega (arith, placed_at_most_used s store u y, used_fits)

  pub zeros_fits : zeros_added s store u y < 2 ^ 32
  unfolding used_bits
  zeros_fits = omega (arith, added_within (block_packets s store u (system_packets y) (enable_bits y)), used_fits)
