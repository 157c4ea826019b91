-- The header in a message's first packet (document 01, "Messages and packets"), and the message bytes in a packet.
use Rattle.std.specs.Prelude.{ℕ, ◌+◌, ◌*◌, ◌%◌, ◌/◌, Bool, cond, not, ◌&&◌, ◌||◌, List, length, drop, get_or, ltb, eqb}
use Rattle.packet.specs.Messages.{long_header}
use Rattle.parsing.specs.Packets.{link, segment_in}

-- A4: the header has two bytes
unfoldable pub two_bytes : List ℕ → Bool
two_bytes s = eqb (get_or s 0 0 / 16 % 2) 1

-- the header's length in bytes, and the message length that it holds
unfoldable pub header_length : List ℕ → ℕ
header_length s = cond (two_bytes s) 2 1

unfoldable pub message_length : List ℕ → ℕ
message_length s = cond (two_bytes s) (256 * (get_or s 0 0 % 16) + get_or s 1 0) (get_or s 0 0 % 16)

-- "A two-byte header holding less than 16, one holding 4,095, or one cut by the segment's end is Wrong"; where long messages are `taken`, "The
-- receiver .. no longer answers Wrong to this header" (document 02, ask 7)
unfoldable pub wrong_header : Bool → List ℕ → Bool
wrong_header taken s = two_bytes s && (ltb (length s) 2 || ltb (message_length s) 16 || (eqb (message_length s) long_header && not taken))

-- the message bytes in a packet, "headerless"
unfoldable pub message_part : List ℕ → List ℕ
message_part p = cond (eqb (link p) 2) (drop (header_length (segment_in p)) (segment_in p)) (segment_in p)
