-- The notice that the bytes of a reading call's answer say, or nothing where they are the answer of no notice.
use Rattle.std.specs.Prelude.{ℕ, Bool, true, false, cond, ◌&&◌, List, [], ◌∷◌, eqb, Option, None, Some}
use Rattle.notices.specs.declared.Fate.{Fate}
use Rattle.notices.specs.declared.Fate.TheVariants.{Copy, Begun, Held, Whole, Orphan, Wrong}
use Rattle.notices.specs.declared.Notice.{Notice}
use Rattle.notices.specs.declared.Notice.TheVariants.{End, Spoilt, Malformed, System, Elsewhere, Circuit}
use Rattle.layout.specs.Layout.{byte_at, number_at}
use Rattle.receiver_layout.specs.Answers.{notice_bytes}
use Rattle.totals.specs.declared.Totals.{Totals}
use Rattle.totals.specs.Totals.{noted}

-- the fate of a number, where a whole message has length n; any number above 4 stands for Wrong
unfoldable pub fate_of_number : ℕ → ℕ → Fate
fate_of_number k n =
    cond (eqb k 0) Copy (cond (eqb k 1) Begun (cond (eqb k 2) Held (cond (eqb k 3) (Whole n) (cond (eqb k 4) Orphan Wrong))))

-- the only notice that fits (Fits.antt) and may have these bytes; any number above 4 stands for a circuit's
unfoldable pub likely_notice : List ℕ → Notice
likely_notice answer =
    let k = byte_at answer 0 in
    cond (eqb k 0) End (cond (eqb k 1) Spoilt (cond (eqb k 2) Malformed
    (cond (eqb k 3) (System (byte_at answer 1) (byte_at answer 2) (byte_at answer 3))
    (cond (eqb k 4) Elsewhere (Circuit (byte_at answer 1) (byte_at answer 2) (fate_of_number (byte_at answer 3) (number_at 2 answer 4)))))))

-- the bytes begin with these
unfoldable pub begins_with : List ℕ → List ℕ → Bool
begins_with bytes [] = true
begins_with [] (x ∷ xs) = false
begins_with (b ∷ bytes) (x ∷ xs) = eqb b x && begins_with bytes xs

-- the notice whose bytes the answer begins with
unfoldable pub notice_said : List ℕ → Option Notice
notice_said answer = let n = likely_notice answer in cond (begins_with answer (notice_bytes n)) (Some n) None

-- the record after an answer: bytes that are the answer of no notice count nowhere
unfoldable pub noted_said : Totals → Option Notice → Totals
noted_said t (Some n) = noted t n
noted_said t None = t
