-- Bits read piece by piece: what they leave and what they close.
use Prim.Native.Nat.{ℕ, suc, ◌+◌}
use mathlib.Core.Bool.{Bool, true, false, cond}
use mathlib.Core.List.{List, [], ◌∷◌, ◌++◌}
use mathlib.Core.Path.{◌≡◌, refl, ap}
use native.Mathlib.Omega.{arith}
use lib.ListN.{length}
use Rattle.framing.specs.declared.Framing.{Framing}
use Rattle.framing.specs.Machine.{step, run, closes}
use Rattle.framing.specs.Closings.{Closing, closed, closings}

pub run_append : (a b : List Bool) (f : Framing) → run f (a ++ b) ≡ run (run f a) b
unfolding run
run_append [] b f = refl
run_append (x ∷ a) b f = run_append a b (step f x)

cond_append : (t : Bool) (c : Closing) (a b l : List Closing) → l ≡ a ++ b → cond t (c ∷ l) l ≡ cond t (c ∷ a) a ++ b
cond_append true c a b l e = ap (◌∷◌ c) e
cond_append false c a b l e = e

pub closings_append : (a b : List Bool) (f : Framing) (n : ℕ) → closings f n (a ++ b) ≡ closings f n a ++ closings (run f a) (n + length a) b
unfolding closings run
closings_append [] b f n = let e : n + 0 ≡ n = omega arith in rw e
closings_append (x ∷ a) b f n =
    let e : n + suc (length a) ≡ suc n + length a = omega arith in
    rw e
    (cond_append (closes f x) (closed f (suc n)) (closings (step f x) (suc n) a) (closings (run (step f x) a) (suc n + length a) b)
    (closings (step f x) (suc n) (a ++ b)) (closings_append a b (step f x) (suc n)))
