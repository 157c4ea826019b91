-- The bytes lent carry a record of pass totals: noting an answer leaves in them the record after its notice, and leaves what stands behind the record.
use Prim.Native.Nat.{ℕ, ◌≤◌, ◌<◌}
use mathlib.Core.Bool.{Bool, true, false, cond, ◌||◌}
use mathlib.Core.List.{List, [], ◌++◌}
use mathlib.Core.Path.{◌≡◌, refl, sym, ap, ◌∙◌}
use native.Mathlib.Omega.{arith}
use borrow.Author.Tests.{le-ltb, ltb-false}
use lib.ListN.{length, take, drop, length-append, take-append-drop}
use lib.Seq.{sets, drop_at, length-sets, length-take-le}
use lib.Dec.{ltb, eqb}
use Rattle.bits.specs.Bits.{Bytes}
use Rattle.bits.proofs.Lists.{sets_behind}
use Rattle.packet.proofs.Choices.{cond_either}
use Rattle.packet.proofs.LongBuffers.{longest_at_bounds}
use Rattle.notices.specs.declared.Fate.{Fate}
use Rattle.notices.specs.declared.Fate.TheVariants.{Copy, Begun, Held, Whole, Orphan, Wrong}
use Rattle.notices.specs.declared.Notice.{Notice}
use Rattle.notices.specs.declared.Notice.TheVariants.{End, Spoilt, Malformed, System, Elsewhere, Circuit}
use Rattle.notices.proofs.NoticesInRange.{FateInRange, NoticeInRange}
use Rattle.packet.specs.Lists.{AllAre}
use Rattle.packet.specs.Messages.{longest_long}
use Rattle.layout.specs.Fits.{Four}
use Rattle.receiver_layout.specs.Answers.{read_answer_length, whole_length, read_answer_bytes}
use Rattle.receiver_layout.proofs.AnswersRead.{length-read_answer_bytes}
use Rattle.totals.specs.declared.Figures.{Figures}
use Rattle.totals.specs.declared.Totals.{Totals}
use Rattle.totals.specs.Figures.{no_figures, most, capped}
use Rattle.totals.specs.Totals.{empty_totals, noted}
use Rattle.totals_layout.specs.TotalsBytes.{totals_length, totals_bytes, totals_in}
use Rattle.totals_layout.specs.NoticeSaid.{notice_said, noted_said}
use Rattle.totals_layout.specs.Fits.{FiguresFit, TotalsFit, NoticeFits}
use Rattle.totals_layout.proofs.TotalsRoundTrip.{length-totals_bytes, totals_unpack, totals_pack}
use Rattle.totals_layout.proofs.NoticeReadBack.{notice_read_back}
use Rattle.aes18.specs.Room.{no_room}
use Rattle.aes18.specs.TotalsCalls.{note_answered, note_record}
use Rattle.exported.proofs.Fitting.{Four-set}

-- ---- the record fits in its bytes, after any notice too

capped_fit : (f : Figures) → FiguresFit (capped f)
unfolding capped most
capped_fit f = record { messages = omega arith; bytes = omega arith; lost = omega arith; orphaned = omega arith }

pub empty_fit : TotalsFit empty_totals
unfolding TotalsFit empty_totals no_figures AllAre
empty_fit =
    let none : FiguresFit no_figures = record { messages = omega arith; bytes = omega arith; lost = omega arith; orphaned = omega arith } in
    record { four = refl; each = (none, (none, (none, (none, tt)))) }

pub noted_fit : (t : Totals) (n : Notice) → TotalsFit t → TotalsFit (noted t n)
unfolding noted TotalsFit
noted_fit t (Circuit c loss fate) fits =
    cond_either (λ (t : Totals). Four FiguresFit t.circuits) (ltb c 4) _ _ (λ _. Four-set FiguresFit t.circuits c _ (capped_fit _) fits) (λ _. fits)
noted_fit t End fits = fits
noted_fit t Spoilt fits = fits
noted_fit t Malformed fits = fits
noted_fit t (System enable code n) fits = fits
noted_fit t Elsewhere fits = fits

-- ---- a notice in range fits in an answer

fate_fits : (fate : Fate) → FateInRange longest_long fate → whole_length fate < 65536
unfolding FateInRange whole_length longest_long
fate_fits Copy h = omega arith
fate_fits Begun h = omega arith
fate_fits Held h = omega arith
fate_fits (Whole n) h = omega (arith, h)
fate_fits Orphan h = omega arith
fate_fits Wrong h = omega arith

-- what a message may have at most, it has at most where it may have more
fate_wider : {a b : ℕ} (fate : Fate) → a ≤ b → FateInRange a fate → FateInRange b fate
unfolding FateInRange
fate_wider Copy le h = tt
fate_wider Begun le h = tt
fate_wider Held le h = tt
fate_wider (Whole n) le h = omega arith
fate_wider Orphan le h = tt
fate_wider Wrong le h = tt

notice_fits : (given : Bool) (n : Notice) → NoticeInRange given n → NoticeFits n
unfolding NoticeInRange NoticeFits
notice_fits given End h = tt
notice_fits given Spoilt h = tt
notice_fits given Malformed h = tt
notice_fits given (System enable code n) h = omega (arith, h.information)
notice_fits given Elsewhere h = tt
notice_fits given (Circuit c loss fate) h = (omega (arith, h.number), fate_fits fate (fate_wider fate (longest_at_bounds given c).1 h.fate))

-- ---- noting

module _ (t : Totals) (fits : TotalsFit t) (rest : List ℕ) where
  note_carried : (answer : List ℕ) → read_answer_length ≤ length answer
      → note_record (totals_bytes t ++ rest) answer ≡ totals_bytes (noted_said t (notice_said answer)) ++ rest
  unfolding note_record note_answered
  note_carried answer long =
      let room : totals_length ≤ length (totals_bytes t ++ rest) = rw length-append (omega (arith, length-totals_bytes t)) in
      let after : Totals = noted_said t (notice_said answer) in
      let inside : length (totals_bytes after) ≤ length (totals_bytes t ++ rest) = omega (arith, length-totals_bytes after, room) in
      rw (le-ltb (length (totals_bytes t ++ rest)) totals_length room, le-ltb (length answer) read_answer_length long, totals_unpack t fits rest)
      (sets_behind [] (totals_bytes t ++ rest) (totals_bytes after) inside
      ∙ ap (λ behind. totals_bytes after ++ behind)
      (drop_at (totals_bytes t) rest (length (totals_bytes after)) (length-totals_bytes t ∙ sym (length-totals_bytes after))))

  -- the answer of a call that tells a notice in range, whatever the bytes were that were lent for it
  pub answer_noted : (given : Bool) (n : Notice) → NoticeInRange given n → (bits : ℕ) (answer : List ℕ) → read_answer_length ≤ length answer
      → note_record (totals_bytes t ++ rest) (sets answer 0 (read_answer_bytes n bits)) ≡ totals_bytes (noted t n) ++ rest
  unfolding noted_said
  answer_noted given n range bits answer long =
      let told : List ℕ = read_answer_bytes n bits in
      let inside : length told ≤ length answer = omega (arith, length-read_answer_bytes n bits, long) in
      let again : read_answer_length ≤ length (sets answer 0 told) = rw (length-sets answer 0 told) long in
      note_carried (sets answer 0 told) again
      ∙ ap (λ said. totals_bytes (noted_said t said) ++ rest)
      (ap notice_said (sets_behind [] answer told inside) ∙ notice_read_back n (notice_fits given n range) bits (drop (length told) answer))

-- ---- an answer that counts nothing

-- every byte stays as it was
pub note_unchanged : (bytes answer : List ℕ) → Bytes bytes → noted_said (totals_in bytes) (notice_said answer) ≡ totals_in bytes → note_record bytes answer ≡ bytes
unfolding note_record note_answered no_room
note_unchanged bytes answer are none = go (ltb (length bytes) totals_length) refl (ltb (length answer) read_answer_length)
  where
    go : (b : Bool) → ltb (length bytes) totals_length ≡ b → (a : Bool)
        → cond (eqb (cond (b || a) 255 0) 0) (sets bytes 0 (totals_bytes (noted_said (totals_in bytes) (notice_said answer)))) bytes ≡ bytes
    go true short a = refl
    go false long true = refl
    go false long false =
        let room : totals_length ≤ length bytes = ltb-false (length bytes) totals_length long in
        let front : length (take totals_length bytes) ≡ totals_length = length-take-le totals_length bytes room in
        rw (none, totals_pack bytes are room)
        (sets_behind [] bytes (take totals_length bytes) (omega (arith, front, room)) ∙ rw front (take-append-drop totals_length bytes))
