-- What the serial line's functions answer, and what they leave in the bytes lent to them. The answer is 0, document 02's number of the refusal, or 255 where
-- there is no room.
use Rattle.std.specs.Prelude.{ℕ, cond, ◌||◌, List, length, take, ltb, eqb}
use Rattle.std.proofs.lemmas.List.Edits.{sets}
use Rattle.serial.specs.Octets.{line_frame}
use Rattle.serial.specs.Writing.{write_refusal, output_after}
use Rattle.serial.specs.Machine.{reading, length_given}
use Rattle.layout.specs.Layout.{packet_length}
use Rattle.serial_layout.specs.LineBytes.{line_length, line_bytes, line_in, line_write_length, line_write_bytes, line_read_length, line_read_bytes}
use Rattle.aes18.specs.Room.{no_room}

-- ---- writing

-- the number answered
unfoldable pub line_write_answered : List ℕ → List ℕ → List ℕ → ℕ
line_write_answered packet line answer = cond (ltb (length answer) line_write_length) no_room (write_refusal packet line)

-- what line and answer are then
unfoldable pub line_written : List ℕ → List ℕ → List ℕ → List ℕ
line_written packet line answer = cond (eqb (line_write_answered packet line answer) 0) (output_after packet line) line

unfoldable pub line_write_answer : List ℕ → List ℕ → List ℕ → List ℕ
line_write_answer packet line answer =
    cond (eqb (line_write_answered packet line answer) 0) (sets answer 0 (line_write_bytes (length (line_frame packet)))) answer

-- ---- reading

-- the number answered
unfoldable pub line_read_answered : List ℕ → List ℕ → List ℕ → ℕ
line_read_answered bytes packet answer =
    cond (ltb (length bytes) line_length || ltb (length packet) packet_length || ltb (length answer) line_read_length) no_room 0

-- what record, packet and answer are then
unfoldable pub line_read_record : List ℕ → List ℕ → List ℕ → List ℕ → List ℕ
line_read_record bytes line packet answer =
    cond (eqb (line_read_answered bytes packet answer) 0) (sets bytes 0 (line_bytes (reading (line_in bytes) line).line)) bytes

unfoldable pub line_read_packet : List ℕ → List ℕ → List ℕ → List ℕ → List ℕ
line_read_packet bytes line packet answer =
    let r = reading (line_in bytes) line in
    cond (eqb (line_read_answered bytes packet answer) 0) (sets packet 0 (take (length_given r) r.frame)) packet

unfoldable pub line_read_answer : List ℕ → List ℕ → List ℕ → List ℕ → List ℕ
line_read_answer bytes line packet answer =
    let r = reading (line_in bytes) line in
    cond (eqb (line_read_answered bytes packet answer) 0) (sets answer 0 (line_read_bytes (length_given r) r.read)) answer
