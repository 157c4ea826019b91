-- Lists of exported calls of the serial line, told by what they answer and leave in the bytes lent to them, and document 02's calls that they are (ask 3).
-- `line_writes_carried` and `line_reads_carried` say that they put the same bytes on a line, and give the same packets; `lines_carried` and `lines_across` what
-- that comes to from a fresh record on, and `line-read-told` that the bytes read are told.
use Rattle.std.specs.Prelude.{ℕ, Bool, cond, ◌&&◌, List, [], ◌∷◌, ◌++◌, length, take, leb, eqb}
use Rattle.layout.specs.Layout.{number_at, packet_length}
use Rattle.serial.specs.Writing.{WriteCall}
use Rattle.serial_layout.specs.LineBytes.{line_write_length, line_read_length}
use Rattle.aes18.specs.LineCalls.{line_write_answered, line_written, line_write_answer, line_read_answered, line_read_record, line_read_packet, line_read_answer}

-- ---- writing

-- a call: the packet, and the bytes lent for the line and for the answer
pub record LentWrite : Type 0 where
  pub packet : List ℕ
  pub line : List ℕ
  pub answer : List ℕ

-- the bytes that a call puts on the line: as many as its answer says, where the number answered is 0
unfoldable pub lent_sent : List LentWrite → List ℕ
lent_sent [] = []
lent_sent (c ∷ cs) =
    cond (eqb (line_write_answered c.packet c.line c.answer) 0)
    (take (number_at 8 (line_write_answer c.packet c.line c.answer) 0) (line_written c.packet c.line c.answer))
    []
    ++ lent_sent cs

-- document 02's calls among them: one that has no room, and is answered by 255, is none
unfoldable pub writes_of : List LentWrite → List WriteCall
writes_of [] = []
writes_of (c ∷ cs) =
    cond (leb line_write_length (length c.answer)) (record { packet = c.packet; output = c.line } ∷ writes_of cs) (writes_of cs)

-- ---- reading

-- a call: bytes of the line, and the bytes lent for the packet and for the answer
pub record LentLineRead : Type 0 where
  pub line : List ℕ
  pub packet : List ℕ
  pub answer : List ℕ

-- the packet and the answer have room
unfoldable pub line_read_has_room : LentLineRead → Bool
line_read_has_room c = leb packet_length (length c.packet) && leb line_read_length (length c.answer)

-- the packet of a length, one or none
unfoldable pub packet_of_length : ℕ → List ℕ → List (List ℕ)
packet_of_length n place = cond (eqb n 0) [] (take n place ∷ [])

-- the packets that calls give, from a record's bytes on: each of the length that its answer says, where the number answered is 0
unfoldable pub lent_packets : List ℕ → List LentLineRead → List (List ℕ)
lent_packets bytes [] = []
lent_packets bytes (c ∷ cs) =
    cond (eqb (line_read_answered bytes c.packet c.answer) 0)
    (packet_of_length (number_at 8 (line_read_answer bytes c.line c.packet c.answer) 0) (line_read_packet bytes c.line c.packet c.answer))
    []
    ++ lent_packets (line_read_record bytes c.line c.packet c.answer) cs

-- the bytes lent to document 02's calls among them
unfoldable pub lines_of : List LentLineRead → List (List ℕ)
lines_of [] = []
lines_of (c ∷ cs) = cond (line_read_has_room c) (c.line ∷ lines_of cs) (lines_of cs)
