-- An answer's bytes and its notice: the notice read back from the bytes is the notice, and bytes of which a notice is read back are its bytes.
use Prim.Native.Nat.{ℕ, ◌%◌}
use mathlib.Core.Bool.{Bool, true, false, cond}
use mathlib.Core.List.{List, [], ◌++◌, append_assoc}
use mathlib.Core.Path.{◌≡◌, refl, ap, subst, ◌∙◌}
use native.Mathlib.Omega.{arith}
use lib.ListN.{take}
use Rattle.notices.specs.declared.Fate.{Fate}
use Rattle.notices.specs.declared.Fate.TheVariants.{Copy, Begun, Held, Whole, Orphan, Wrong}
use Rattle.notices.specs.declared.Notice.{Notice}
use Rattle.notices.specs.declared.Notice.TheVariants.{End, Spoilt, Malformed, System, Elsewhere, Circuit}
use Rattle.layout.specs.Layout.{low_bytes, byte_at, number_at}
use Rattle.layout.proofs.Parts.{number_unpacks}
use Rattle.receiver_layout.specs.Answers.{fate_number, whole_length, notice_bytes, read_answer_bytes}
use Rattle.receiver_layout.proofs.AnswersRead.{length-notice_bytes}
use Rattle.std.specs.Prelude.{Option, None, Some}
use Rattle.totals_layout.specs.NoticeSaid.{fate_of_number, likely_notice, begins_with, notice_said}
use Rattle.totals_layout.specs.Fits.{NoticeFits}
use Rattle.totals_layout.proofs.BeginsWith.{begins_front, front_begins}

fate_back : (fate : Fate) → fate_of_number (fate_number fate) (whole_length fate) ≡ fate
unfolding fate_of_number fate_number whole_length
fate_back Copy = refl
fate_back Begun = refl
fate_back Held = refl
fate_back (Whole n) = refl
fate_back Orphan = refl
fate_back Wrong = refl

likely : (n : Notice) → NoticeFits n → (rest : List ℕ) → likely_notice (notice_bytes n ++ rest) ≡ n
unfolding likely_notice notice_bytes NoticeFits low_bytes byte_at number_at
likely End fits rest = refl
likely Spoilt fits rest = refl
likely Malformed fits rest = refl
likely (System enable code n) fits rest = ap (System enable code) (omega (arith, fits))
likely Elsewhere fits rest = refl
likely (Circuit c loss fate) fits rest =
    let number : c % 256 ≡ c = omega (arith, fits.0) in
    λ i. Circuit (number i) loss ((ap (fate_of_number (fate_number fate)) (number_unpacks 2 (whole_length fate) fits.1 []) ∙ fate_back fate) i)

-- the notice read back from an answer's bytes is the notice, for every notice that fits there, whatever stands behind the answer
pub notice_read_back : (n : Notice) → NoticeFits n → (bits : ℕ) (rest : List ℕ) → notice_said (read_answer_bytes n bits ++ rest) ≡ Some n
unfolding notice_said read_answer_bytes
notice_read_back n fits bits rest =
    rw (append_assoc, likely n fits (low_bytes 8 bits ++ rest), begins_front (notice_bytes n) (low_bytes 8 bits ++ rest))

-- bytes of which a notice is read back are the bytes of its answer
Said_bytes : Option Notice → List ℕ → Type 0
Said_bytes (Some n) answer = take 8 answer ≡ notice_bytes n
Said_bytes None answer = Unit {0}

pub notice_bytes_said : (answer : List ℕ) (n : Notice) → notice_said answer ≡ Some n → take 8 answer ≡ notice_bytes n
unfolding notice_said Said_bytes
notice_bytes_said answer n e = subst (λ said. Said_bytes said answer) e (go (begins_with answer told) refl)
  where
    told : List ℕ
    told = notice_bytes (likely_notice answer)

    go : (b : Bool) → begins_with answer told ≡ b → Said_bytes (cond b (Some (likely_notice answer)) None) answer
    go true s = subst (λ k. take k answer ≡ told) (length-notice_bytes (likely_notice answer)) (front_begins answer told s)
    go false s = tt
