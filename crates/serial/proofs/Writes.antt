-- What a writing call answers, case by case, and what it leaves in the output.
use Prim.Native.Nat.{ℕ, ◌+◌, ◌*◌, ◌≤◌, ◌<◌}
use mathlib.Core.Bool.{Bool, true, false, cond}
use mathlib.Core.List.{List}
use mathlib.Core.Path.{◌≡◌, refl, ap, ◌∙◌}
use native.Mathlib.Omega.{arith}
use borrow.Author.Tests.{le-leb, lt-leb, leb-true}
use lib.ListN.{length}
use lib.Seq.{sets}
use lib.Dec.{leb}
use Rattle.std.specs.Prelude.{Ok, Err}
use Rattle.packet.specs.declared.Refusal.TheVariants.{ShortOutput, WrongPacket}
use Rattle.packet.specs.Answers.{refusal_of, answered}
use Rattle.serial.specs.Octets.{fits, line_frame}
use Rattle.serial.specs.Writing.{worst_case, write_refusal, write_answer, output_after}

pub fits_in : (p : List ℕ) → 2 ≤ length p → length p ≤ 19 → fits p ≡ true
unfolding fits
fits_in p lo hi = rw (le-leb 2 (length p) lo, le-leb (length p) 19 hi)

module _ (p output : List ℕ) where
  refused : fits p ≡ false → (Err WrongPacket ≡ write_answer p output) × (output ≡ output_after p output)
  unfolding write_answer output_after write_refusal answered refusal_of
  refused e = (rw e, rw e)

  pub packet_few : length p < 2 → (Err WrongPacket ≡ write_answer p output) × (output ≡ output_after p output)
  unfolding fits
  packet_few h = refused (rw (lt-leb 2 (length p) h))

  pub packet_many : 19 < length p → (Err WrongPacket ≡ write_answer p output) × (output ≡ output_after p output)
  unfolding fits
  packet_many h = refused (rw (le-leb 2 (length p) (omega arith), lt-leb (length p) 19 h))

  module _ (lo : 2 ≤ length p) (hi : length p ≤ 19) where
    short_refused : length output < 2 * (length p + 2) + 2 → write_refusal p output ≡ 16
    unfolding write_refusal worst_case
    short_refused h =
        ap (λ (t : Bool). cond t (cond (leb (worst_case p) (length output)) 0 16) 17) (fits_in p lo hi)
        ∙ ap (λ (t : Bool). cond t 0 16) (lt-leb (2 * (length p + 2) + 2) (length output) h)

    pub output_short : length output < 2 * (length p + 2) + 2 → (Err ShortOutput ≡ write_answer p output) × (output ≡ output_after p output)
    unfolding write_answer output_after answered refusal_of
    output_short h = (rw (short_refused h), rw (short_refused h))

    pub accepted : (n : ℕ) (new : List ℕ) → 2 * (length p + 2) + 2 ≤ length output → n ≡ length (line_frame p) → new ≡ sets output 0 (line_frame p)
        → (Ok n ≡ write_answer p output) × (new ≡ output_after p output)
    unfolding write_answer output_after write_refusal worst_case answered
    accepted n new h k e =
        let long = le-leb (2 * (length p + 2) + 2) (length output) h in
        (rw (fits_in p lo hi, long, k), rw (fits_in p lo hi, long, e))

  -- what holds of each number holds of the refusal
  pub write_cases : (P : ℕ → Type 0) → (fits p ≡ true → worst_case p ≤ length output → P 0) → P 16 → P 17 → P (write_refusal p output)
  unfolding write_refusal
  write_cases P fine short outside = go (fits p) refl (leb (worst_case p) (length output)) refl
    where
      go : (s : Bool) → fits p ≡ s → (t : Bool) → leb (worst_case p) (length output) ≡ t → P (cond s (cond t 0 16) 17)
      go true f true h = fine f (leb-true (worst_case p) (length output) h)
      go true f false h = short
      go false f t h = outside
