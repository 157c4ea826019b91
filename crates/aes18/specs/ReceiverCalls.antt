-- What the receiver's functions answer, and what they leave in the bytes lent to them. The answer is 0, the documents' number of the refusal, or 255 where
-- there is no room. A refused call leaves every lent byte as it was; only a listing writes its record all the same. l is what is
-- lent beside the record: the store alone, or with the long buffer (document 02, ask 7).
use Rattle.std.specs.Prelude.{ℕ, cond, not, ◌||◌, List, length, ltb, eqb}
use Rattle.std.proofs.lemmas.List.Edits.{sets}
use Rattle.packet.specs.Circuits.{list_refusal, listing}
use Rattle.packet.specs.Stores.{Stores}
use Rattle.receiver.specs.Record.{fresh}
use Rattle.receiver.specs.Reading.{read_scan, read_by, read_refusal, receiver_after_read, stores_after_read, bits_read}
use Rattle.receiver_layout.specs.ReceiverBytes.{receiver_length, receiver_bytes, receiver_in, is_receiver}
use Rattle.receiver_layout.specs.Answers.{read_answer_length, read_answer_bytes}
use Rattle.aes18.specs.Room.{no_room}

-- ---- listing

-- the number answered
unfoldable pub list_answered : List ℕ → List ℕ → ℕ
list_answered bytes list = cond (ltb (length bytes) receiver_length) no_room (list_refusal list)

-- "a refusal returns a record of no circuits"
unfoldable pub list_record : List ℕ → List ℕ → List ℕ
list_record bytes list = cond (ltb (length bytes) receiver_length) bytes (sets bytes 0 (receiver_bytes (fresh (listing list))))

-- ---- reading

-- the number answered; bytes that no record is laid out as are "a record out of range"
unfoldable pub read_answered : List ℕ → Stores → List ℕ → ℕ → ℕ → List ℕ → ℕ
read_answered bytes l bits from to answer =
    cond (ltb (length bytes) receiver_length || ltb (length answer) read_answer_length) no_room
    (cond (not (is_receiver bytes)) 14 (read_refusal (receiver_in bytes) l bits from to))

-- what record, store, buffer and answer are then
unfoldable pub read_record : List ℕ → Stores → List ℕ → ℕ → ℕ → List ℕ → List ℕ
read_record bytes l bits from to answer =
    cond (eqb (read_answered bytes l bits from to answer) 0)
    (sets bytes 0 (receiver_bytes (receiver_after_read (receiver_in bytes) l bits from to))) bytes

unfoldable pub read_stores : List ℕ → Stores → List ℕ → ℕ → ℕ → List ℕ → Stores
read_stores bytes l bits from to answer =
    cond (eqb (read_answered bytes l bits from to answer) 0) (stores_after_read (receiver_in bytes) l bits from to) l

unfoldable pub read_answer : List ℕ → Stores → List ℕ → ℕ → ℕ → List ℕ → List ℕ
read_answer bytes l bits from to answer =
    let r = receiver_in bytes in
    cond (eqb (read_answered bytes l bits from to answer) 0)
    (sets answer 0 (read_answer_bytes (read_by (read_scan r bits from to) r l).notice (bits_read r l bits from to))) answer
