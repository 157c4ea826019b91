-- Flags and voids bring every framing to one state: after a flag the framing does not depend on what was before, and seven ones
-- leave any framing that bits leave fresh and close nothing.
use Prim.Native.Nat.{ℕ, zero, suc, ◌+◌, ◌≤◌, ◌<◌}
use mathlib.Core.Bool.{Bool, true, false, cond}
use mathlib.Core.List.{List, []}
use mathlib.Core.Path.{◌≡◌, refl, ap, ◌∙◌}
use native.Mathlib.Omega.{arith}
use lib.ListN.{length, replicate}
use lib.Dec.{leb, ltb, eqb}
use Rattle.bits.specs.Bits.{odd, low_bits, byte_bits}
use Rattle.hdlc.specs.Frames.{flag}
use Rattle.framing.specs.declared.Framing.{Framing}
use Rattle.framing.specs.Machine.{empty, fresh, zero_read, held, keep, step, run, closes}
use Rattle.framing.specs.Closings.{closings}
use Rattle.framing.specs.Range.{LeftBy}
use Rattle.framing.proofs.Framed.{framed, up_to_six, phase_after_inside, step-true_more, step-false-flag, step_one, step_seven, step-fresh_one}
use Rattle.framing.proofs.Reached.{Reached, before, hunting, opened, plain, stuffed, left_reached}

-- ---- a flag

-- a zero was read, and so many ones behind it
pub record Behind (o : ℕ) (f : Framing) : Type 0 where
  pub ones : f.ones ≡ o
  pub started : 0 < f.phase

-- one more one
pub Behind-true : (o : ℕ) (f : Framing) → o < 6 → Behind o f → Behind (suc o) (step f true)
Behind-true o f l h =
    rw (step-true_more f h.started (rw h.ones l)) (record { ones = ap suc h.ones; started = h.started })

-- whatever was before, a zero starts anew
Behind-cond : (o : ℕ) (t : Bool) (f g : Framing) → Behind o f → Behind o g → Behind o (cond t f g)
Behind-cond o true f g h k = h
Behind-cond o false f g h k = k

Behind-empty : (p : ℕ) → Behind 0 (empty (suc p))
unfolding empty
Behind-empty p = record { ones = refl; started = omega arith }

Behind-keep : (f : Framing) → Behind 0 (keep f)
unfolding keep
Behind-keep f =
    Behind-cond 0 (leb (f.count + length (held f)) 168) _ _ (record { ones = refl; started = omega (arith, phase_after_inside f.ones) })
    (record { ones = refl; started = omega (arith, phase_after_inside f.ones) })

pub Behind-false : (f : Framing) → Behind 0 (step f false)
unfolding step zero_read
Behind-false f =
    Behind-cond 0 (eqb f.phase 0) (empty 1) _ (Behind-empty 0)
    (Behind-cond 0 (ltb f.ones 6) _ (empty 2)
    (Behind-cond 0 (eqb f.phase 1) (empty 1) (keep f) (Behind-empty 0) (Behind-keep f))
    (Behind-empty 1))

-- ones up to six are counted
Behind_ones : (k o : ℕ) (f : Framing) → o + k ≤ 6 → Behind o f → Behind (o + k) (run f (replicate k true))
unfolding run
Behind_ones zero o f l h = let e : o + 0 ≡ o = omega arith in rw e h
Behind_ones (suc k) o f l h =
    let e : o + suc k ≡ suc o + k = omega arith in
    rw e (Behind_ones k (suc o) (step f true) (omega arith) (Behind-true o f (omega arith) h))

-- a flag leaves the same framing, whatever was before, in range or not
pub run-flag : (f : Framing) → run f flag ≡ empty 2
unfolding flag byte_bits low_bits odd run
run-flag f =
    let six : Behind 6 (run (step f false) (replicate 6 true)) = Behind_ones 6 0 (step f false) (omega arith) (Behind-false f) in
    step-false-flag (run (step f false) (replicate 6 true)) six.started (rw six.ones (omega arith))

-- ---- seven ones

-- ones close nothing, from any framing
pub closings_ones : (k : ℕ) (f : Framing) (n : ℕ) → closings f n (replicate k true) ≡ []
unfolding closings closes
closings_ones zero f n = refl
closings_ones (suc k) f n = closings_ones k (step f true) (suc n)

-- ones leave a fresh framing fresh
pub run-fresh_ones : (k : ℕ) → run fresh (replicate k true) ≡ fresh
unfolding run
run-fresh_ones zero = refl
run-fresh_ones (suc k) = ap (λ f. run f (replicate k true)) step-fresh_one ∙ run-fresh_ones k

-- behind a zero, ones that come to seven leave the framing fresh
run-void : (k p o : ℕ) (x : List Bool) → o ≤ 6 → 7 ≤ o + k → run (framed (suc p) o x) (replicate k true) ≡ fresh
unfolding run
run-void zero p o x l h = absurd (omega arith)
run-void (suc k) p o x l h = more (run-void k p (suc o) x)
  where
    more : (suc o ≤ 6 → 7 ≤ suc o + k → run (framed (suc p) (suc o) x) (replicate k true) ≡ fresh) →
        run (step (framed (suc p) o x) true) (replicate k true) ≡ fresh
    more ih =
        up_to_six (λ n. run (step (framed (suc p) n x) true) (replicate k true) ≡ fresh) o l
        (λ fewer. ap (λ f. run f (replicate k true)) (step_one p o x fewer) ∙ ih fewer (omega arith))
        (ap (λ f. run f (replicate k true)) (step_seven p x) ∙ run-fresh_ones k)

-- seven ones or more leave every framing that bits leave fresh
Reached-void : (k : ℕ) {f : Framing} → 7 ≤ k → Reached f → run f (replicate k true) ≡ fresh
Reached-void k h before = run-fresh_ones k
Reached-void k h (hunting o l) = run-void k 0 o [] l (omega arith)
Reached-void k h (opened o l) = run-void k 1 o [] l (omega arith)
Reached-void k h (plain o x l) = run-void k 2 o x l (omega arith)
Reached-void k h (stuffed o x l _) = run-void k 3 o x l (omega arith)

pub run_ones : (k : ℕ) (f : Framing) → LeftBy f → 7 ≤ k → run f (replicate k true) ≡ fresh
run_ones k f l h = Reached-void k h (left_reached f l)
