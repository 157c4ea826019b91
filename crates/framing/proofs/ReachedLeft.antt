-- For each framing that `Reached` lists there are bits that leave it: a zero or a flag, in a body its bits stuffed, and then as many
-- ones as are behind the last zero.
use Prim.Native.Nat.{ℕ, zero, suc, ◌+◌, ◌-◌, ◌%◌, ◌≤◌}
use mathlib.Core.Bool.{Bool, true, false}
use mathlib.Core.List.{List, [], ◌∷◌, ◌++◌}
use mathlib.Core.Path.{◌≡◌, refl, sym, ap, ◌∙◌}
use native.Mathlib.Omega.{arith}
use lib.ListN.{replicate}
use Rattle.hdlc.specs.Stuffing.{stuff_from, free_after, stuff, end_ones}
use Rattle.hdlc.specs.Frames.{flag}
use Rattle.hdlc.proofs.Stuffing.{stuff_from_append}
use Rattle.framing.specs.declared.Framing.{Framing}
use Rattle.framing.specs.Machine.{empty, fresh, run}
use Rattle.framing.specs.Range.{LeftBy, in_fives}
use Rattle.framing.proofs.Framed.{framed, framed_empty, step-fresh-zero}
use Rattle.framing.proofs.Runs.{run_append}
use Rattle.framing.proofs.Reached.{Reached, before, hunting, opened, plain, stuffed, in_fives-least, in_fives-whole}
use Rattle.framing.proofs.Resync.{run-flag}
use Rattle.framing.proofs.Stuffed.{InBody, InBody-opened, InBody-stuff_from, step_body_zero, step_body_fifth, run_framed_ones}

-- bits that leave a framing behind no ones, and so many ones
left_ones : (bs : List Bool) (p o : ℕ) (x : List Bool) → run fresh bs ≡ framed (suc p) 0 x → o ≤ 6 → LeftBy (framed (suc p) o x)
unfolding LeftBy
left_ones bs p o x e l =
    let z : 0 + o ≡ o = omega arith in (
      bs ++ replicate o true,
      run_append bs (replicate o true) fresh ∙ ap (λ f. run f (replicate o true)) e ∙ run_framed_ones o p 0 x (rw z l)
          ∙ ap (λ n. framed (suc p) n x) z,
    )

-- a zero, and a flag
run-zero : run fresh (false ∷ []) ≡ framed 1 0 []
unfolding run
run-zero = step-fresh-zero ∙ framed_empty 1

run-opened : run fresh flag ≡ framed 2 0 []
run-opened = run-flag fresh ∙ framed_empty 2

-- a body's bits, stuffed, and a plain zero
run-stuff : (x bs : List Bool) → run fresh (flag ++ (stuff x ++ bs)) ≡ run (run (empty 2) (stuff x)) bs
run-stuff x bs =
    run_append flag (stuff x ++ bs) fresh ∙ ap (λ f. run f (stuff x ++ bs)) (run-flag fresh) ∙ run_append (stuff x) bs (empty 2)

run-plain : (x : List Bool) → run fresh (flag ++ (stuff x ++ (false ∷ []))) ≡ framed 3 0 x
unfolding run stuff
run-plain x =
    run-stuff x (false ∷ [])
    ∙ step_body_zero (free_after x 4) x (run (empty 2) (stuff_from x 4)) (InBody-stuff_from x 4 [] (empty 2) InBody-opened)

-- the ones free are what those that end the bits leave of five
free_after-end_ones : (z : List Bool) (free n : ℕ) → n % 5 + free ≡ 4 → end_ones z n % 5 + free_after z free ≡ 4
unfolding free_after end_ones
free_after-end_ones [] free n e = e
free_after-end_ones (false ∷ z) free n e = free_after-end_ones z 4 0 refl
free_after-end_ones (true ∷ z) zero n e = free_after-end_ones z 4 (suc n) (omega arith)
free_after-end_ones (true ∷ z) (suc free) n e = free_after-end_ones z free (suc n) (omega arith)

-- bits that end in a one, and how many ones end those before it
record LastOne (x : List Bool) (n m : ℕ) : Type 0 where
  front : List Bool
  split : x ≡ front ++ (true ∷ [])
  rest : end_ones front n ≡ m

LastOne_cons : (b : Bool) (x : List Bool) (n k m : ℕ) → ((z : List Bool) → end_ones (b ∷ z) n ≡ end_ones z k) →
    LastOne x k m → LastOne (b ∷ x) n m
LastOne_cons b x n k m e l = record { front = b ∷ l.front; split = ap (◌∷◌ b) l.split; rest = e l.front ∙ l.rest }

last_one : (x : List Bool) (b : Bool) (n m : ℕ) → end_ones (b ∷ x) n ≡ suc m → LastOne (b ∷ x) n m
unfolding end_ones
last_one [] true n m e = record { front = []; split = refl; rest = omega arith }
last_one [] false n m e = absurd (omega arith)
last_one (c ∷ x) true n m e = LastOne_cons true (c ∷ x) n (suc n) m (λ z. refl) (last_one x c (suc n) m e)
last_one (c ∷ x) false n m e = LastOne_cons false (c ∷ x) n 0 m (λ z. refl) (last_one x c 0 m e)

last_one_from : (x : List Bool) (m : ℕ) → end_ones x 0 ≡ suc m → LastOne x 0 m
unfolding end_ones
last_one_from [] m e = absurd (omega arith)
last_one_from (b ∷ x) m e = last_one x b 0 m e

-- bits that end in whole fives of ones: the zero behind the last is held back
run_body_fifth : (y : List Bool) (f : Framing) → InBody 0 y f → run f (stuff_from (true ∷ []) 0) ≡ framed 4 0 (y ++ (true ∷ []))
unfolding run stuff_from
run_body_fifth y f b = step_body_fifth y f b

run_fifth : (z : List Bool) → free_after z 4 ≡ 0 → run (empty 2) (stuff (z ++ (true ∷ []))) ≡ framed 4 0 (z ++ (true ∷ []))
unfolding stuff
run_fifth z e =
    let b : InBody (free_after z 4) z (run (empty 2) (stuff_from z 4)) = InBody-stuff_from z 4 [] (empty 2) InBody-opened in
    rw (stuff_from_append z (true ∷ []) 4, e)
    (run_append (stuff_from z 4) (stuff_from (true ∷ []) 0) (empty 2) ∙ run_body_fifth z (run (empty 2) (stuff_from z 4)) (rw e at b))

run_fives : (x : List Bool) → in_fives (end_ones x 0) ≡ true → run fresh (flag ++ stuff x) ≡ framed 4 0 x
run_fives x h =
    let least : 5 ≤ end_ones x 0 = in_fives-least (end_ones x 0) h in
    let whole : end_ones x 0 % 5 ≡ 0 = in_fives-whole (end_ones x 0) h in
    let m : ℕ = end_ones x 0 - 1 in
    let more : end_ones x 0 ≡ suc m = omega arith in
    let l : LastOne x 0 m = last_one_from x m more in
    let free : end_ones l.front 0 % 5 + free_after l.front 4 ≡ 4 = free_after-end_ones l.front 4 0 refl in
    let rest : end_ones l.front 0 ≡ m = l.rest in
    let full : free_after l.front 4 ≡ 0 = omega arith in
    run_append flag (stuff x) fresh ∙ ap (λ f. run f (stuff x)) (run-flag fresh)
    ∙ ap (λ y. run (empty 2) (stuff y)) l.split ∙ run_fifth l.front full ∙ ap (framed 4 0) (sym l.split)

-- ---- each form

-- bits leave every framing that is listed
pub reached_left : {f : Framing} → Reached f → LeftBy f
unfolding LeftBy run
reached_left before = ([], refl)
reached_left (hunting o l) = left_ones (false ∷ []) 0 o [] run-zero l
reached_left (opened o l) = left_ones flag 1 o [] run-opened l
reached_left (plain o x l) = left_ones (flag ++ (stuff x ++ (false ∷ []))) 2 o x (run-plain x) l
reached_left (stuffed o x l h) = left_ones (flag ++ stuff x) 3 o x (run_fives x h) l
