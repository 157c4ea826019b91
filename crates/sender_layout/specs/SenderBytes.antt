-- A sender's record in 55 bytes: its circuits, four slots of 10, the circuit last served, and the enable bits in force. Every 55 bytes are some
-- record's.
use Rattle.std.specs.Prelude.{ℕ, ◌+◌, List, [], ◌∷◌, ◌++◌, get_or}
use Rattle.offering.specs.declared.Slot.{Slot}
use Rattle.offering.specs.declared.Sender.{Sender}
use Rattle.offering.specs.Record.{no_slot}
use Rattle.layout.specs.Layout.{low_bytes, byte_at, number_at, circuits_bytes, circuits_in}

abbrev pub sender_length : ℕ
sender_length = 55

-- a slot, 10 bytes: index, priority, repetition, copy, length, place, left
unfoldable pub slot_bytes : Slot → List ℕ
slot_bytes t = t.index ∷ t.priority ∷ t.repetition ∷ t.copy ∷ low_bytes 2 t.length ++ low_bytes 2 t.place ++ low_bytes 2 t.left

unfoldable pub slot_in : List ℕ → ℕ → Slot
slot_in bytes at =
    record {
      index = byte_at bytes at;
      priority = byte_at bytes (at + 1);
      repetition = byte_at bytes (at + 2);
      copy = byte_at bytes (at + 3);
      length = number_at 2 bytes (at + 4);
      place = number_at 2 bytes (at + 6);
      left = number_at 2 bytes (at + 8);
    }

unfoldable pub slots_bytes : List Slot → List ℕ
slots_bytes ts =
    slot_bytes (get_or ts 0 no_slot) ++ slot_bytes (get_or ts 1 no_slot) ++ slot_bytes (get_or ts 2 no_slot) ++ slot_bytes (get_or ts 3 no_slot)

unfoldable pub sender_bytes : Sender → List ℕ
sender_bytes s = circuits_bytes s.circuits ++ slots_bytes s.slots ++ s.last ∷ s.enable ∷ []

unfoldable pub sender_in : List ℕ → Sender
sender_in bytes =
    record {
      circuits = circuits_in bytes;
      slots = slot_in bytes 13 ∷ slot_in bytes 23 ∷ slot_in bytes 33 ∷ slot_in bytes 43 ∷ [];
      last = byte_at bytes 53;
      enable = byte_at bytes 54;
    }
