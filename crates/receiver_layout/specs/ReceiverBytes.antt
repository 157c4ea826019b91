-- A receiver's record in 61 bytes: its circuits, four slots of 6, and the framing, 24. Bytes are no record's where a slot's first is neither 0 nor 1.
use Rattle.std.specs.Prelude.{ℕ, ◌+◌, Bool, ◌&&◌, List, [], ◌∷◌, ◌++◌, get_or, leb, eqb}
use Rattle.bits.specs.Bits.{bit_value}
use Rattle.notices.specs.declared.Slot.{Slot}
use Rattle.receiver.specs.declared.Receiver.{Receiver}
use Rattle.notices.specs.Slots.{fresh_slot}
use Rattle.layout.specs.Layout.{low_bytes, byte_at, number_at, circuits_bytes, circuits_in}
use Rattle.framing_layout.specs.FramingBytes.{framing_bytes, framing_in}

abbrev pub receiver_length : ℕ
receiver_length = 61

-- a slot, 6 bytes: seen, last, length, place
unfoldable pub slot_bytes : Slot → List ℕ
slot_bytes t = bit_value t.seen ∷ t.last ∷ low_bytes 2 t.length ++ low_bytes 2 t.place

unfoldable pub slot_in : List ℕ → ℕ → Slot
slot_in bytes at =
    record { seen = eqb (byte_at bytes at) 1; last = byte_at bytes (at + 1); length = number_at 2 bytes (at + 2); place = number_at 2 bytes (at + 4) }

unfoldable pub slots_bytes : List Slot → List ℕ
slots_bytes ts =
    slot_bytes (get_or ts 0 fresh_slot) ++ slot_bytes (get_or ts 1 fresh_slot) ++ slot_bytes (get_or ts 2 fresh_slot) ++
    slot_bytes (get_or ts 3 fresh_slot)

unfoldable pub receiver_bytes : Receiver → List ℕ
receiver_bytes r = circuits_bytes r.circuits ++ slots_bytes r.slots ++ framing_bytes r.framing

unfoldable pub receiver_in : List ℕ → Receiver
receiver_in bytes =
    record {
      circuits = circuits_in bytes;
      slots = slot_in bytes 13 ∷ slot_in bytes 19 ∷ slot_in bytes 25 ∷ slot_in bytes 31 ∷ [];
      framing = framing_in bytes 37;
    }

-- some record is laid out like this
unfoldable pub is_receiver : List ℕ → Bool
is_receiver bytes =
    leb (byte_at bytes 13) 1 && leb (byte_at bytes 19) 1 && leb (byte_at bytes 25) 1 && leb (byte_at bytes 31) 1
