-- The packets still to go by value: behind an offer, and in and out of range.
use mathlib.Core.Path.{◌≡◌, refl}
use Prim.Native.Nat.{ℕ}
use mathlib.Core.Bool.{true, false}
use mathlib.Core.List.{List, [], ◌∷◌}
use lib.ListN.{replicate}
use Rattle.packet.specs.Circuits.{no_circuit, record_of}
use Rattle.packet.specs.Messages.{longest, header, packets}
use Rattle.offering.specs.declared.Slot.{Slot}
use Rattle.offering.specs.Record.{fresh_slot, fresh, no_slot, slot_at, slot_in_range}
use Rattle.offering.specs.Offering.{offered_slot, offered_sender}

-- five copies after each original are not counted
left_of : List ℕ → ℕ
left_of message = (slot_at (offered_sender (fresh (record_of (no_circuit ∷ []))) 0 3 5 message) 0).left

left_offered : (left_of [] ≡ 1)
    × (left_of (replicate 15 0) ≡ 1)
    × (left_of (replicate 16 0) ≡ 2)
    × (left_of (replicate 30 0) ≡ 2)
    × (left_of (replicate 31 0) ≡ 3)
    × (left_of (replicate 4094 0) ≡ 256)
unfolding left_of record_of fresh_slot fresh slot_at offered_slot offered_sender packets header
left_offered = (refl, refl, refl, refl, refl, refl)

-- a message of 40 bytes with repetition 1, of which a packet and a copy of the next are placed: of its three packets two are left
partly : ℕ → Slot
partly left = record { index = 1; priority = 2; repetition = 1; copy = 1; length = 40; place = 1; left = left }

left_judged : (slot_in_range longest (partly 1) ≡ false)
    × (slot_in_range longest (partly 2) ≡ true)
    × (slot_in_range longest (partly 3) ≡ false)
    × (slot_in_range longest fresh_slot ≡ true)
    × (slot_in_range longest no_slot ≡ false)
unfolding partly slot_in_range fresh_slot no_slot longest packets header
left_judged = (refl, refl, refl, refl, refl)
