-- A sender's record (document 01, "Circuits and records" and refusal 14). A slot tells of a circuit: `index` is the continuity index of its
-- next packet; `priority`, `repetition` and `length` are its last message's; `place` counts the packets of it of which every copy is
-- placed, `copy` the copies placed of the packet behind those, and `left` the "packets still to go", "of which some copy is still to place" (document
-- 02, ask 5). `last` is the number of the circuit last served, and `enable` has the enable bits in force (document 02, ask 4).
use Rattle.std.specs.Prelude.{ℕ, zero, suc, ◌-◌, ◌*◌, ◌≤◌, Bool, true, false, cond, not, ◌&&◌, List, [], ◌∷◌, ◌≡◌, length, take, drop, get_or, replicate, leb, ltb, eqb}
use Rattle.packet.specs.declared.Circuits.{Circuits}
use Rattle.packet.specs.Circuits.{circuits_refusal, listed}
use Rattle.packet.specs.Messages.{longest, packets}
use Rattle.packet.specs.Stores.{region, Stores, longest_at, long_short}
use Rattle.offering.specs.declared.Slot.{Slot}
use Rattle.offering.specs.declared.Sender.{Sender}

-- "16,384 for a sender"
unfoldable pub store_length : ℕ
store_length = 4 * region

-- nothing to send, and nothing sent
unfoldable pub fresh_slot : Slot
fresh_slot = record { index = 0; priority = 0; repetition = 0; copy = 0; length = 0; place = 1; left = 0 }

-- "A fresh sender .. is the record that an accepted listing returned"; "a fresh sender: circuit 0 first"; "A fresh sender has all four enabled"
-- (document 02, ask 4)
unfoldable pub fresh : Circuits → Sender
fresh cs = record { circuits = cs; slots = replicate 4 fresh_slot; last = 3; enable = 15 }

-- what stands past the slots
unfoldable pub no_slot : Slot
no_slot = record { index = 0; priority = 0; repetition = 0; copy = 0; length = 0; place = 0; left = 0 }

-- the slot of a circuit number
unfoldable pub slot_at : Sender → ℕ → Slot
slot_at s c = get_or s.slots c no_slot

-- a message has a copy to place
unfoldable pub pending : Slot → Bool
pending t = ltb t.place (packets t.length)

-- "an index above 7, a priority above 3, a repetition above 5, a length above" the most, "a place past the message's end, a copy
-- number above the repetition" is out of range, and so is a slot in which the packets still to go differ from those that `length` and `place` tell:
-- "a record in which it differs counts as outside its range" (document 02, ask 5)
unfoldable pub slot_in_range : ℕ → Slot → Bool
slot_in_range most t =
    leb t.index 7 && leb t.priority 3 && leb t.repetition 5 && leb t.length most &&
    leb t.place (packets t.length) && leb t.copy t.repetition && eqb t.left (packets t.length - t.place)

-- the slots of n circuit numbers from c on are there, and in range: a length is above 4,094 at most at number 0, where a long buffer is `given`
-- (document 02, ask 7)
unfoldable pub slots_in_range : Bool → ℕ → ℕ → List Slot → Bool
slots_in_range given c zero ts = true
slots_in_range given c (suc n) [] = false
slots_in_range given c (suc n) (t ∷ ts) = slot_in_range (longest_at given c) t && slots_in_range given (suc c) n ts

-- "14 a record out of range (more than four circuits, circuits that listing refuses by 2, 3 or 4, a last served above 3, ..."; "Bits above 15 in a
-- record are out of range" (document 02, ask 4)
unfoldable pub in_range : Bool → Sender → Bool
in_range given s =
    leb s.circuits.count 4 && eqb (circuits_refusal (listed s.circuits)) 0 && leb s.last 3 && leb s.enable 15 &&
    slots_in_range given 0 s.circuits.count s.slots

-- in range, packets are left exactly if a message is pending: "0 when nothing is pending there"
unfoldable pub PendingIffLeft : Type 0
PendingIffLeft = (most : ℕ) (t : Slot) → slot_in_range most t ≡ true → pending t ≡ not (eqb t.left 0)

-- neither 5 nor 19: the store and, where one is given, the long buffer are long enough
pub record LongEnough (l : Stores) : Type 0 where
  pub store : store_length ≤ length l.store
  pub buffer : long_short l ≡ false

-- a message of n bytes at circuit number c: a long one at the start of the long buffer, any other at the start of the circuit's region
unfoldable pub message_of : Stores → ℕ → ℕ → List ℕ
message_of l c n = cond (ltb longest n) (take n l.long) (take n (drop (region * c) l.store))

-- the message of a circuit
unfoldable pub message_at : Sender → Stores → ℕ → List ℕ
message_at s l c = message_of l c (slot_at s c).length
