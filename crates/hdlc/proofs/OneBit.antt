-- One bit written, stuffed: a 0, a one behind which more may come, and the fifth one in a row, which a 0 follows.
use Prim.Native.Nat.{ℕ, zero, suc, ◌+◌, ◌-◌}
use native.Mathlib.Numerals.{add-one}
use native.Mathlib.Omega.{arith}
use mathlib.Core.Bool.{Bool, true, false}
use mathlib.Core.List.{List, [], ◌∷◌}
use mathlib.Core.Path.{◌≡◌, refl, ◌∙◌}
use lib.ListN.{set}
use Rattle.bits.specs.Bits.{bits_of}
use Rattle.hdlc.specs.Stuffing.{stuff_from, free_after}
use Rattle.hdlc.specs.Writing.{Room, Put, stuffed_by}
use Rattle.hdlc.specs.declared.Pen.{Pen}
use Rattle.hdlc.proofs.Writing.{Room_front}

-- a one where more are free
stuff_from_one : (free : ℕ) → (free ≡ 0 → ⊥) → stuff_from (true ∷ []) free ≡ true ∷ []
unfolding stuff_from
stuff_from_one zero h = absurd (h refl)
stuff_from_one (suc free) h = refl

free_after_one : (free : ℕ) → (free ≡ 0 → ⊥) → free - 1 ≡ free_after (true ∷ []) free
unfolding free_after
free_after_one zero h = absurd (h refl)
free_after_one (suc free) h = omega arith

-- what is written of the bit
pub Put-zero : {old new : List ℕ} (pen : Pen) {bit : Bool} → bit ≡ false →
    bits_of new ≡ set (bits_of old) pen.at bit →
    Put old pen (bit ∷ []) new (record { at = pen.at + 1; free = 4; fcs = pen.fcs })
unfolding stuffed_by stuff_from free_after
Put-zero pen e h = record { written = record { buffer = rw e (rw e at h); behind = rw e }; free = rw e }

pub Put_one : {old new : List ℕ} (pen : Pen) {bit : Bool} → bit ≡ true → (pen.free ≡ 0 → ⊥) →
    bits_of new ≡ set (bits_of old) pen.at bit →
    Put old pen (bit ∷ []) new (record { at = pen.at + 1; free = pen.free - 1; fcs = pen.fcs })
unfolding stuffed_by
Put_one pen e n h =
    let s = stuff_from_one pen.free n in
    record {
      written = record { buffer = rw (e, s) (rw e at h); behind = rw (e, s) };
      free = rw e (free_after_one pen.free n);
    }

pub Put_five : {old new : List ℕ} {mid : List Bool} (pen : Pen) {bit : Bool} → bit ≡ true → pen.free ≡ 0 →
    mid ≡ set (bits_of old) pen.at bit → bits_of new ≡ set mid (pen.at + 1) false →
    Put old pen (bit ∷ []) new (record { at = pen.at + 2; free = 4; fcs = pen.fcs })
unfolding stuffed_by stuff_from free_after
Put_five pen e z h k =
    record {
      written = record { buffer = rw (e, z) (k ∙ rw (h, e, add-one)); behind = rw (e, z) };
      free = rw (e, z);
    }

-- room for it
Room_bit_from : {l : List ℕ} {at : ℕ} (bit : Bool) (free : ℕ) → Room l at (stuff_from (bit ∷ []) free) → Room l at (bit ∷ [])
unfolding stuff_from
Room_bit_from false free r = r
Room_bit_from true zero r = Room_front (true ∷ []) (false ∷ []) r
Room_bit_from true (suc free) r = r

pub Room_bit : {l : List ℕ} (pen : Pen) (bit : Bool) →
    Room l pen.at (stuffed_by pen (bit ∷ [])) → Room l pen.at (bit ∷ [])
unfolding stuffed_by
Room_bit pen bit r = Room_bit_from bit pen.free r

pub Room_five : {l : List ℕ} (pen : Pen) {bit : Bool} → bit ≡ true → pen.free ≡ 0 →
    Room l pen.at (stuffed_by pen (bit ∷ [])) → Room l pen.at (bit ∷ false ∷ [])
unfolding stuffed_by stuff_from
Room_five pen e z r = rw e (rw (e, z) at r)
