-- The zeros that stuffing adds: their number tells how long the stuffed bits are, is at most a fifth of the unstuffed ones, and is what unstuffing drops.
use Prim.Native.Nat.{ℕ, zero, suc, ◌+◌, ◌-◌, ◌*◌, ◌/◌, ◌^◌, ◌≤◌, ◌<◌}
use native.Mathlib.Omega.{arith}
use mathlib.Core.Bool.{Bool, true, false, xor}
use mathlib.Core.List.{List, [], ◌∷◌, ◌++◌}
use mathlib.Core.Path.{◌≡◌, refl, ap, ◌∙◌}
use lib.ListN.{length, length-append, replicate}
use Rattle.bits.specs.Bits.{odd, low_bits, byte_bits, bits_of}
use Rattle.fcs.specs.Fcs.{poly, divided, fcs_bit, fcs_run, preset, complement, fcs_of, low_first}
use Rattle.hdlc.specs.Stuffing.{stuff_from, stuff, added_from, added, unstuff}
use Rattle.hdlc.specs.Frames.{flag, with_fcs, frame, added_in}
use Rattle.hdlc.specs.Writing.{Room, Written, FrameWritten}
use Rattle.hdlc.specs.AddedZeros.{AddedZeros}
use Rattle.hdlc.specs.Leads.{led}
use Rattle.hdlc.specs.declared.zeros.Framed.{Framed}
use Rattle.hdlc.proofs.Stuffing.{length-stuff, unstuff-stuff}
use Rattle.hdlc.proofs.Ending.{length-flag}
use Rattle.hdlc.proofs.Leads.{length-led-behind}
use Rattle.hdlc.proofs.WithFcs.{length_bits_with_fcs}

length-stuff_from-added : (bs : List Bool) (free : ℕ) → length (stuff_from bs free) ≡ length bs + added_from bs free
unfolding stuff_from added_from
length-stuff_from-added [] free = refl
length-stuff_from-added (false ∷ bs) free = omega (arith, length-stuff_from-added bs 4)
length-stuff_from-added (true ∷ bs) zero = omega (arith, length-stuff_from-added bs 4)
length-stuff_from-added (true ∷ bs) (suc free) = omega (arith, length-stuff_from-added bs free)

length-stuff-added : (bs : List Bool) → length (stuff bs) ≡ length bs + added bs
unfolding stuff added
length-stuff-added bs = length-stuff_from-added bs 4

-- a frame: eight bits for each byte of packet and FCS, and the zeros
length-frame-added : (p : List ℕ) → length (frame p) ≡ 8 * (length p + 2) + added_in p
unfolding frame added_in
length-frame-added p = omega (arith, length-stuff-added (bits_of (with_fcs p)), length_bits_with_fcs p)

added_in_fifth : (p : List ℕ) → added_in p ≤ 8 * (length p + 2) / 5
unfolding added_in
added_in_fifth p =
    omega (arith, length-stuff-added (bits_of (with_fcs p)), length-stuff (bits_of (with_fcs p)), length_bits_with_fcs p)

added_dropped : (p : List ℕ) → length (frame p) ≡ length (unstuff (frame p)) + added_in p
unfolding frame added_in
added_dropped p = rw (unstuff-stuff (bits_of (with_fcs p))) (length-stuff-added (bits_of (with_fcs p)))

pub added-zeros : AddedZeros
added-zeros = record { more = length-stuff-added; frames = length-frame-added; fifth = added_in_fifth; dropped = added_dropped }

-- with the flag behind it
pub length_flagged_added : (p : List ℕ) → length (frame p ++ flag) ≡ 8 * (length p + 3) + added_in p
length_flagged_added p = rw length-append (omega (arith, length-frame-added p, length-flag))

-- what `Framed::of` asks holds of a frame that is written, and what it gives tells of that frame
module _ (p : List ℕ) {old new : List ℕ} {at end n : ℕ} (w : Written old at (frame p ++ flag) new end) (e : n ≡ length p) where
  pub framed_within : at + 8 * (n + 3) ≤ end
  framed_within = omega (arith, w.behind, length_flagged_added p)

  pub FrameWritten_framed : {r : Framed} → (r.at ≡ end) × (r.zeros ≡ end - at - 8 * (n + 3)) → FrameWritten old at p new r
  FrameWritten_framed f =
      record {
        written = record { buffer = w.buffer; behind = f.0 ∙ w.behind };
        zeros = omega (arith, f.1, w.behind, length_flagged_added p);
      }

-- the same of a packet whose first bytes stand in a number
module _ (number n : ℕ) (bytes : List ℕ) {packet : List ℕ} (whole : led number n bytes ≡ packet) where
  pub led_small : {old : List ℕ} {at : ℕ} → Room old at (frame packet ++ flag) → n + length bytes < 2 ^ 64
  led_small room = omega (arith, room.small, length_flagged_added packet, length-led-behind number n bytes, ap length whole)

  module _ {old new : List ℕ} {at end : ℕ} (w : Written old at (frame (led number n bytes) ++ flag) new end) where
    pub led_within : at + 8 * (n + length bytes + 3) ≤ end
    led_within = framed_within (led number n bytes) w (length-led-behind number n bytes)

    pub FrameWritten-led : {r : Framed} → (r.at ≡ end) × (r.zeros ≡ end - at - 8 * (n + length bytes + 3)) → FrameWritten old at packet new r
    FrameWritten-led f = rw whole at (FrameWritten_framed (led number n bytes) w (length-led-behind number n bytes) f)

-- closed cases: the five ones of F8 hex end the bits and get their 0; 21 bytes FF hex have 168 ones, and a fifth of them, rounded down, is met; so it is
-- by the frame of FF FF hex, six zeros in 32 bits; and the one zero in that of 01 80 01 05 hex is of the FCS
pub added_by_value : (added (bits_of (0xf8 ∷ [])) ≡ 1) × (added (bits_of (replicate 21 0xff)) ≡ 33) × (added_in (0xff ∷ 0xff ∷ []) ≡ 6)
    × (added_in (0x01 ∷ 0x80 ∷ 0x01 ∷ 0x05 ∷ []) ≡ 1) × (added (bits_of (0x01 ∷ 0x80 ∷ 0x01 ∷ 0x05 ∷ [])) ≡ 0)
unfolding added added_from added_in with_fcs fcs_of low_first complement preset fcs_run fcs_bit divided poly xor bits_of byte_bits low_bits odd
added_by_value = (refl, refl, refl, refl, refl)
