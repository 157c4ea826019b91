-- The slots of the record in bytes: each is read where it lies, and a record of which one slot is changed is written by writing that slot.
use mathlib.Core.Path.{◌≡◌, refl, sym, ap, ◌∙◌}
use Prim.Native.Nat.{ℕ, zero, suc, ◌+◌, ◌*◌, ◌≤◌, ◌<◌}
use native.Mathlib.Omega.{arith}
use mathlib.Core.Bool.{Bool}
use mathlib.Core.List.{List, [], ◌∷◌, ◌++◌}
use lib.ListN.{length, drop, set, take-append-drop}
use lib.Seq.{sets}
use Rattle.std.specs.List.{list_all}
use Rattle.std.specs.List.{range_with_len}
use Rattle.bits.specs.Bits.{Bytes}
use Rattle.packet.specs.declared.Circuits.{Circuits}
use Rattle.packet.specs.Stores.{longest_at}
use Rattle.offering.specs.declared.Slot.{Slot}
use Rattle.offering.specs.declared.Sender.{Sender}
use Rattle.offering.specs.Record.{slot_at, slot_in_range, slots_in_range}
use Rattle.layout.specs.Layout.{low_bytes, circuit_bytes, circuits_bytes}
use Rattle.sender_layout.specs.SenderBytes.{sender_length, slot_bytes, slot_in, slots_bytes, sender_bytes, sender_in}
use Rattle.sender_layout.proofs.SenderRoundTrip.{sender_packs}

-- a circuit's slot lies behind the 13 bytes of the circuits and the slots before it
pub slot_there : (bytes : List ℕ) (c : ℕ) → c < 4 → slot_in bytes (13 + 10 * c) ≡ slot_at (sender_in bytes) c
unfolding slot_at sender_in
slot_there bytes zero h = refl
slot_there bytes (suc zero) h = refl
slot_there bytes (suc (suc zero)) h = refl
slot_there bytes (suc (suc (suc zero))) h = refl
slot_there bytes (suc (suc (suc (suc c)))) h = absurd (omega arith)

-- the first slots are tested where they lie
pub slots_there : (given : Bool) (bytes : List ℕ) (n : ℕ) → n ≤ 4
    → list_all (λ i. slot_in_range (longest_at given i) (slot_in bytes (13 + 10 * i))) (range_with_len 0 n) ≡ slots_in_range given 0 n (sender_in bytes).slots
unfolding slots_in_range sender_in
slots_there given bytes zero h = refl
slots_there given bytes (suc zero) h = refl
slots_there given bytes (suc (suc zero)) h = refl
slots_there given bytes (suc (suc (suc zero))) h = refl
slots_there given bytes (suc (suc (suc (suc zero)))) h = refl
slots_there given bytes (suc (suc (suc (suc (suc n))))) h = absurd (omega arith)

-- the record with another slot at a circuit
abbrev with_slot : Sender → ℕ → Slot → Sender
with_slot s c t = record { circuits = s.circuits; slots = set s.slots c t; last = s.last; enable = s.enable }

-- where a record's bytes lie, those of the changed record differ in the slot alone
over_record : (cs : Circuits) (w x y z : Slot) (last enable : ℕ) (rest : List ℕ) (c : ℕ) (t : Slot) → c < 4
    → let s : Sender = record { circuits = cs; slots = w ∷ x ∷ y ∷ z ∷ []; last = last; enable = enable } in
    sets (sender_bytes s ++ rest) (13 + 10 * c) (slot_bytes t) ≡ sets (sender_bytes s ++ rest) 0 (sender_bytes (with_slot s c t))
unfolding sender_bytes circuits_bytes circuit_bytes slots_bytes slot_bytes low_bytes
over_record cs w x y z last enable rest zero t h = refl
over_record cs w x y z last enable rest (suc zero) t h = refl
over_record cs w x y z last enable rest (suc (suc zero)) t h = refl
over_record cs w x y z last enable rest (suc (suc (suc zero))) t h = refl
over_record cs w x y z last enable rest (suc (suc (suc (suc c)))) t h = absurd (omega arith)

pub slot_in_place : (bytes : List ℕ) → Bytes bytes → sender_length ≤ length bytes → (c : ℕ) (t : Slot) → c < 4
    → sets bytes (13 + 10 * c) (slot_bytes t) ≡ sets bytes 0 (sender_bytes (with_slot (sender_in bytes) c t))
unfolding sender_in
slot_in_place bytes are long c t h =
    let whole : sender_bytes (sender_in bytes) ++ drop sender_length bytes ≡ bytes = rw (sender_packs bytes are long) (take-append-drop sender_length bytes) in
    ap (λ l. sets l (13 + 10 * c) (slot_bytes t)) (sym whole)
    ∙ over_record _ _ _ _ _ _ _ (drop sender_length bytes) c t h
    ∙ ap (λ l. sets l 0 (sender_bytes (with_slot (sender_in bytes) c t))) whole
