-- Reading with the receiver whose record is in bytes: what the bytes of the record and those of the answer are then. A refused call leaves them as they were.
use Rattle.std.specs.Prelude.{ℕ, cond, List, eqb}
use Rattle.std.proofs.lemmas.List.Edits.{sets}
use Rattle.packet.specs.Stores.{Stores}
use Rattle.receiver.specs.Reading.{read_scan, read_by, read_refusal, receiver_after_read, bits_read}
use Rattle.receiver_layout.specs.ReceiverBytes.{receiver_bytes, receiver_in}
use Rattle.receiver_layout.specs.Answers.{read_answer_bytes}

unfoldable pub record_after_read : List ℕ → Stores → List ℕ → ℕ → ℕ → List ℕ
record_after_read bytes l bits from to =
    cond (eqb (read_refusal (receiver_in bytes) l bits from to) 0) (sets bytes 0 (receiver_bytes (receiver_after_read (receiver_in bytes) l bits from to))) bytes

unfoldable pub answer_after_read : List ℕ → Stores → List ℕ → ℕ → ℕ → List ℕ → List ℕ
answer_after_read bytes l bits from to answer =
    let r = receiver_in bytes in
    cond (eqb (read_refusal r l bits from to) 0)
    (sets answer 0 (read_answer_bytes (read_by (read_scan r bits from to) r l).notice (bits_read r l bits from to))) answer
