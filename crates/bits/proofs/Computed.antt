-- A test that is computed at every number below a bound holds at each of them: a rule on a byte is proved by computing it 256 times.
use Prim.Native.Nat.{ℕ, zero, suc, ◌<◌}
use native.Mathlib.Omega.{arith}
use mathlib.Core.Bool.{Bool, true, false, ◌&&◌}
use mathlib.Core.Path.{◌≡◌, refl}
use lib.Dec.{eqb}
use borrow.Author.Tests.{eqb-true, eqb-false}
use Rattle.bits.proofs.Tests.{and_left, and_right}

unfoldable pub all_below : (ℕ → Bool) → ℕ → Bool
all_below f zero = true
all_below f (suc n) = f n && all_below f n

pub each_below : (f : ℕ → Bool) (n k : ℕ) → all_below f n ≡ true → k < n → f k ≡ true
unfolding all_below
each_below f zero k t h = absurd (omega arith)
each_below f (suc n) k t h = go (λ l. each_below f n k (and_right (f n) (all_below f n) t) l) (eqb k n) refl
  where
    go : (k < n → f k ≡ true) → (e : Bool) → eqb k n ≡ e → f k ≡ true
    go below true e = rw (eqb-true k n e) (and_left (f n) (all_below f n) t)
    go below false e =
        let other : k ≡ n → ⊥ = eqb-false k n e in
        below (omega arith)
