-- What the framing's function answers, and what it leaves in the bytes lent to it. The answer is 0, document 01's number of the refusal, or 255 where there
-- is no room. A refused call leaves every lent byte as it was.
use Rattle.std.specs.Prelude.{ℕ, Bool, cond, ◌||◌, List, length, ltb}
use Rattle.layout.specs.Layout.{packet_length}
use Rattle.framing_layout.specs.FramingBytes.{framing_length, framing_in, framing_answer_length}
use Rattle.framing_layout.specs.Reading.{framing_refusal, framing_after, packet_after, answer_after}
use Rattle.aes18.specs.Room.{no_room}

-- the framing, the place for the packet or the answer is too short
unfoldable pub framing_short : List ℕ → List ℕ → List ℕ → Bool
framing_short bytes packet answer =
    ltb (length bytes) framing_length || ltb (length packet) packet_length || ltb (length answer) framing_answer_length

-- the number answered
unfoldable pub framing_read_answered : List ℕ → List ℕ → ℕ → ℕ → List ℕ → List ℕ → ℕ
framing_read_answered bytes bits from to packet answer =
    cond (framing_short bytes packet answer) no_room (framing_refusal (framing_in bytes 0) bits from to)

-- what framing, packet and answer are then
unfoldable pub framing_read_record : List ℕ → List ℕ → ℕ → ℕ → List ℕ → List ℕ → List ℕ
framing_read_record bytes bits from to packet answer = cond (framing_short bytes packet answer) bytes (framing_after bytes bits from to)

unfoldable pub framing_read_packet : List ℕ → List ℕ → ℕ → ℕ → List ℕ → List ℕ → List ℕ
framing_read_packet bytes bits from to packet answer = cond (framing_short bytes packet answer) packet (packet_after bytes bits from to packet)

unfoldable pub framing_read_answer : List ℕ → List ℕ → ℕ → ℕ → List ℕ → List ℕ → List ℕ
framing_read_answer bytes bits from to packet answer = cond (framing_short bytes packet answer) answer (answer_after bytes bits from to answer)
