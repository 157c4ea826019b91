-- What a receiver keeps of a circuit (document 01, "Circuits and records", "Notices" and refusal 14). A slot tells of a circuit: `seen` whether a packet of
-- it came, `last` the index of the last one, `length` the length of the message that is open and `place` how many of its bytes are written. A message is
-- open exactly if `place` is below `length`. A `length` above 4,094 is that of a long message (document 02, ask 7): the most that it may have, as its
-- header does not tell its own.
use Rattle.std.specs.Prelude.{ℕ, suc, Bool, true, false, ◌&&◌, List, [], ◌∷◌, nat_le, nat_lt, slice_index_or}
use Rattle.packet.specs.Stores.{longest_at}
use Rattle.notices.specs.declared.Slot.{Slot}

-- nothing heard, no message open
unfoldable pub fresh_slot : Slot
fresh_slot = record { seen = false; last = 0; length = 0; place = 0 }

-- the slot of a circuit number
unfoldable pub slot_at : List Slot → ℕ → Slot
slot_at slots c = slice_index_or slots c fresh_slot

-- a message is open
unfoldable pub open_message : Slot → Bool
open_message t = nat_lt t.place t.length

-- "an index above 7, .. a length above" the most, "a place past the message's end" is out of range
unfoldable pub slot_in_range : ℕ → Slot → Bool
slot_in_range most t = nat_le t.last 7 && nat_le t.length most && nat_le t.place t.length

-- the slots from circuit number c on, where a long buffer is given or not
unfoldable pub slots_in_range : Bool → ℕ → List Slot → Bool
slots_in_range given c [] = true
slots_in_range given c (t ∷ ts) = slot_in_range (longest_at given c) t && slots_in_range given (suc c) ts
