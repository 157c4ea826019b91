-- What noting a reading call's answer answers, and what it leaves in the bytes lent to it. The answer is 0, or 255 where there is no room.
use Rattle.std.specs.Prelude.{ℕ, cond, ◌||◌, List, length, ltb, eqb}
use Rattle.std.proofs.lemmas.List.Edits.{sets}
use Rattle.receiver_layout.specs.Answers.{read_answer_length}
use Rattle.totals_layout.specs.TotalsBytes.{totals_length, totals_bytes, totals_in}
use Rattle.totals_layout.specs.NoticeSaid.{notice_said, noted_said}
use Rattle.aes18.specs.Room.{no_room}

-- the number answered
unfoldable pub note_answered : List ℕ → List ℕ → ℕ
note_answered bytes answer = cond (ltb (length bytes) totals_length || ltb (length answer) read_answer_length) no_room 0

-- what the record is then
unfoldable pub note_record : List ℕ → List ℕ → List ℕ
note_record bytes answer =
    cond (eqb (note_answered bytes answer) 0) (sets bytes 0 (totals_bytes (noted_said (totals_in bytes) (notice_said answer)))) bytes
