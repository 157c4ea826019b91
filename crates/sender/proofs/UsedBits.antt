-- The bits used in a block: those of the frames before ours, and behind them those of ours; they are at most U. The added zeros are those of the same
-- frames, and some of these bits.
use Prim.Native.Nat.{ℕ, ◌+◌, ◌≤◌}
use native.Mathlib.Omega.{arith}
use mathlib.Core.List.{List, [], ◌∷◌, ◌++◌, append_assoc}
use Rattle.std.proofs.Common.{Option}
use mathlib.Core.Path.{◌≡◌, refl, sym}
use lib.ListN.{length, length-append}
use Rattle.hdlc.specs.Frames.{flag, frame}
use Rattle.hdlc.proofs.AddedZeros.{length_flagged_added}
use Rattle.packet.specs.Stores.{Stores}
use Rattle.offering.specs.declared.Sender.{Sender}
use Rattle.sender.specs.Blocks.{frames_bits, added_in_frames, flagged_frames, placed_packets, ruled, block_filled, block_packets, used_bits}
use Rattle.sender.proofs.Filling.{fill_up_used}

frames_bits_append : (ps qs : List (List ℕ)) → frames_bits (ps ++ qs) ≡ frames_bits ps ++ frames_bits qs
unfolding frames_bits
frames_bits_append [] qs = refl
frames_bits_append (p ∷ ps) qs = rw (frames_bits_append ps qs) (sym (append_assoc (frame p ++ flag) (frames_bits ps) (frames_bits qs)))

flagged_frames_append : (ps qs : List (List ℕ)) → flagged_frames (ps ++ qs) ≡ flagged_frames ps ++ frames_bits qs
unfolding flagged_frames
flagged_frames_append ps qs = rw (frames_bits_append ps qs) (sym (append_assoc flag (frames_bits ps) (frames_bits qs)))

pub added_in_frames_append : (ps qs : List (List ℕ)) → added_in_frames (ps ++ qs) ≡ added_in_frames ps + added_in_frames qs
unfolding added_in_frames
added_in_frames_append [] qs = omega arith
added_in_frames_append (p ∷ ps) qs = omega (arith, added_in_frames_append ps qs)

added_in_frames_within : (ps : List (List ℕ)) → added_in_frames ps ≤ length (frames_bits ps)
unfolding added_in_frames frames_bits
added_in_frames_within [] = omega arith
added_in_frames_within (p ∷ ps) = rw length-append (omega (arith, length_flagged_added p, added_in_frames_within ps))

pub added_within : (ps : List (List ℕ)) → added_in_frames ps ≤ length (flagged_frames ps)
unfolding flagged_frames
added_within ps = rw length-append (omega (arith, added_in_frames_within ps))

module _ (s : Sender) (store : Stores) (u : ℕ) (before : List (List ℕ)) (new_enable : Option ℕ) where
  pub used_bits-behind : used_bits s store u before new_enable
      ≡ flagged_frames before ++ frames_bits (placed_packets (block_filled s store u before new_enable).frames)
  unfolding used_bits block_packets
  used_bits-behind = flagged_frames_append before (placed_packets (block_filled s store u before new_enable).frames)

  pub used_within : length (flagged_frames before) ≤ u → length (used_bits s store u before new_enable) ≤ u
  unfolding block_filled
  used_within h = rw (used_bits-behind, length-append) (fill_up_used (ruled s new_enable) store (length (flagged_frames before)) _ u h)
