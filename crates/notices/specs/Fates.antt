-- What becomes of a circuit's packet (document 01, "Notices"), and the circuit's slot then.
use Rattle.std.specs.Prelude.{ℕ, ◌+◌, ◌-◌, ◌%◌, Bool, true, cond, not, ◌&&◌, List, length, ◌==◌, nat_le, nat_lt}
use Rattle.packet.specs.Messages.{longest, longest_long, long_header}
use Rattle.parsing.specs.Packets.{link, index, segment_in}
use Rattle.parsing.specs.Headers.{header_length, message_length, wrong_header, message_part}
use Rattle.notices.specs.declared.Slot.{Slot}
use Rattle.notices.specs.declared.Fate.{Fate}
use Rattle.notices.specs.declared.Fate.TheVariants.{Copy, Begun, Held, Whole, Orphan, Wrong}
use Rattle.notices.specs.Slots.{open_message}

-- "index equal to the circuit's last: Copy"
unfoldable pub is_copy : Slot → List ℕ → Bool
is_copy t p = t.seen && index p == t.last

-- "else loss is (index - last - 1) modulo 8, or 0 if none came before"
unfoldable pub loss_of : Slot → List ℕ → ℕ
loss_of t p = cond t.seen ((index p + 8 - t.last - 1) % 8) 0

-- "A loss above 0, or a first packet, drops an open message": whether one is open still
unfoldable pub still_open : Slot → List ℕ → Bool
still_open t p = open_message t && loss_of t p == 0 && not (link p == 2)

-- "first: Whole with the length if complete; Begun if the segment has 16 bytes and more are due; else Wrong"; the header of long messages is `taken`
-- or not
unfoldable pub first_fate : Bool → List ℕ → Fate
first_fate taken s =
    let body = length s - header_length s in
    cond (wrong_header taken s) Wrong
    (cond (body == message_length s) (Whole (message_length s)) (cond (length s == 16 && nat_lt body (message_length s)) Begun Wrong))

-- "Between: Held if 16 bytes and more still due, else Wrong. Last: Whole if it ends exactly, else Wrong"; more is due to a long message while it "would" not
-- "pass 65,535" (document 02, ask 7)
unfoldable pub between_fate : Slot → List ℕ → Fate
between_fate t s = cond (length s == 16 && nat_lt (t.place + 16) t.length) Held Wrong

-- of a long message: "It answers Wrong if the message ends below 4,095 or would pass 65,535" (document 02, ask 7)
unfoldable pub last_fate : Slot → List ℕ → Fate
last_fate t s =
    let end = t.place + length s in
    cond (nat_lt longest t.length) (cond (nat_lt longest end && nat_le end t.length) (Whole end) Wrong)
    (cond (end == t.length) (Whole t.length) Wrong)

-- "between or last, no message open: Orphan"
unfoldable pub fate_of : Bool → Slot → List ℕ → Fate
fate_of taken t p =
    cond (is_copy t p) Copy
    (cond (link p == 2) (first_fate taken (segment_in p))
    (cond (not (still_open t p)) Orphan (cond (link p == 0) (between_fate t (segment_in p)) (last_fate t (segment_in p)))))

-- ---- the slot then

-- no message is open, and this index is the last
unfoldable pub closed_slot : List ℕ → Slot
closed_slot p = record { seen = true; last = index p; length = 0; place = 0 }

-- the length of the message that a first segment opens: that in its header, or the most of a long message
unfoldable pub open_length : List ℕ → ℕ
open_length s = cond (message_length s == long_header) longest_long (message_length s)

-- "After every case but Copy the circuit's last is this index"; "Wrong closes the message", and so does Whole
unfoldable pub slot_after : Fate → Slot → List ℕ → Slot
slot_after Copy t p = t
slot_after Begun t p = record { seen = true; last = index p; length = open_length (segment_in p); place = length (message_part p) }
slot_after Held t p = record { seen = true; last = index p; length = t.length; place = t.place + 16 }
slot_after (Whole n) t p = closed_slot p
slot_after Orphan t p = closed_slot p
slot_after Wrong t p = closed_slot p
