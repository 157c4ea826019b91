-- What a packet writes into the store, or into the long buffer (document 01, "Circuits and records" and "Notices"; document 02, ask 7).
use Rattle.std.specs.Prelude.{ℕ, ◌+◌, ◌*◌, Bool, true, false, cond, not, ◌&&◌, ◌||◌, List, length, ◌==◌, nat_le, nat_lt}
use Rattle.std.proofs.lemmas.List.Edits.{sets}
use Rattle.packet.specs.Messages.{longest, longest_long, long_header}
use Rattle.packet.specs.Stores.{region, Stores, stores}
use Rattle.parsing.specs.Packets.{link, lead, segment_in, information}
use Rattle.parsing.specs.Headers.{message_length, message_part}
use Rattle.notices.specs.declared.Slot.{Slot}
use Rattle.notices.specs.declared.Fate.{Fate}
use Rattle.notices.specs.declared.Fate.TheVariants.{Copy, Begun, Held, Whole, Orphan, Wrong}
use Rattle.notices.specs.declared.Notice.{Notice}
use Rattle.notices.specs.declared.Notice.TheVariants.{End, Spoilt, Malformed, System, Elsewhere, Circuit}
use Rattle.notices.specs.Slots.{slot_at, slot_in_range}

-- "16,400 for a receiver, where the 16 from byte 16,384 hold system information"
unfoldable pub system_place : ℕ
system_place = 4 * region

unfoldable pub store_length : ℕ
store_length = system_place + 16

-- where in its region or in the long buffer a packet's message bytes go: "in order from the region's start"
unfoldable pub place_of : Slot → List ℕ → ℕ
place_of t p = cond (link p == 2) 0 t.place

-- the packet is of a long message
unfoldable pub is_long : Slot → List ℕ → Bool
is_long t p = cond (link p == 2) (message_length (segment_in p) == long_header) (nat_lt longest t.length)

-- a packet's message bytes in circuit number c's region; or, of a long message, "Its bytes go to that buffer from the start" (document 02, ask 7)
unfoldable pub with_part : ℕ → Slot → List ℕ → Stores → Stores
with_part c t p l =
    cond (is_long t p) (stores l.store l.given (sets l.long (place_of t p) (message_part p)))
    (stores (sets l.store (region * c + place_of t p) (message_part p)) l.given l.long)

-- "Begun, Held and Whole write their message bytes ..; nothing else in the store changes"
unfoldable pub writes : Fate → Bool
writes Copy = false
writes Begun = true
writes Held = true
writes (Whole n) = true
writes Orphan = false
writes Wrong = false

unfoldable pub stores_after_fate : Fate → ℕ → Slot → List ℕ → Stores → Stores
stores_after_fate fate c t p l = cond (writes fate) (with_part c t p l) l

-- the stores after a packet by its notice, where the slots were these before; "System: .. its bytes go to the store from byte 16,384"
unfoldable pub stores_after_notice : Notice → List Slot → List ℕ → Stores → Stores
stores_after_notice End slots p l = l
stores_after_notice Spoilt slots p l = l
stores_after_notice Malformed slots p l = l
stores_after_notice (System enable code n) slots p l = stores (sets l.store system_place (information p)) l.given l.long
stores_after_notice Elsewhere slots p l = l
stores_after_notice (Circuit c loss fate) slots p l = stores_after_fate fate c (slot_at slots c) p l

-- what a fate writes into the long buffer ends within it
unfoldable pub fits_long : Fate → Slot → List ℕ → List ℕ → Bool
fits_long fate t p long = not (writes fate && is_long t p) || nat_le (place_of t p + length (message_part p)) (length long)

-- what a notice writes can be written: its circuit has a region and a slot in range, its packet has a segment, and the long buffer takes its bytes
unfoldable pub writable : Notice → List Slot → List ℕ → List ℕ → Bool
writable End slots p long = true
writable Spoilt slots p long = true
writable Malformed slots p long = true
writable (System enable code n) slots p long = nat_lt (lead p) (length p)
writable Elsewhere slots p long = true
writable (Circuit c loss fate) slots p long =
    nat_lt c 4 && slot_in_range longest_long (slot_at slots c) && nat_lt (lead p) (length p) && fits_long fate (slot_at slots c) p long
