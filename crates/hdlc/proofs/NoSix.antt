-- "No six ones in a row", as a recursive condition: bits that meet it nowhere hold six ones.
use Prim.Native.Nat.{ℕ, zero, suc, ◌≤◌}
use native.Mathlib.Omega.{arith}
use mathlib.Core.Bool.{Bool, true, false}
use mathlib.Core.List.{List, [], ◌∷◌}
use mathlib.Core.Path.{◌≡◌, refl}
use lib.ListN.{replicate}
use Rattle.bits.proofs.Tests.{or_both}
use Rattle.hdlc.specs.Bodies.{starts_with, holds}

-- no six ones in a row in the bits, where n more ones may come before the next 0
unfoldable pub NoSix : List Bool → ℕ → Type 0
NoSix [] n = Unit {0}
NoSix (true ∷ b) zero = ⊥
NoSix (true ∷ b) (suc n) = NoSix b n
NoSix (false ∷ b) n = NoSix b 5

-- more ones may come where fewer may
pub NoSix_more : (b : List Bool) (n m : ℕ) → n ≤ m → NoSix b n → NoSix b m
unfolding NoSix
NoSix_more [] n m l h = tt
NoSix_more (true ∷ b) zero m l h = absurd h
NoSix_more (true ∷ b) (suc n) zero l h = absurd (omega arith)
NoSix_more (true ∷ b) (suc n) (suc m) l h = NoSix_more b n m (omega arith) h
NoSix_more (false ∷ b) n m l h = h

-- the bits behind the first one
pub NoSix_tail : (x : Bool) (b : List Bool) → NoSix (x ∷ b) 5 → NoSix b 5
unfolding NoSix
NoSix_tail true b h = NoSix_more b 4 5 (omega arith) h
NoSix_tail false b h = h

-- where n more ones may come, the bits do not begin with n + 1 ones
NoSix_starts_with : (b : List Bool) (n : ℕ) → NoSix b n → starts_with (replicate (suc n) true) b ≡ false
unfolding NoSix starts_with
NoSix_starts_with [] n h = refl
NoSix_starts_with (true ∷ b) zero h = absurd h
NoSix_starts_with (true ∷ b) (suc n) h = NoSix_starts_with b n h
NoSix_starts_with (false ∷ b) n h = refl

-- no six ones in a row: the recursive condition gives the declared one
pub NoSix_holds : (b : List Bool) → NoSix b 5 → holds (replicate 6 true) b ≡ false
unfolding holds starts_with
NoSix_holds [] h = refl
NoSix_holds (x ∷ b) h =
    or_both (starts_with (replicate 6 true) (x ∷ b)) (holds (replicate 6 true) b) (NoSix_starts_with (x ∷ b) 5 h)
    (NoSix_holds b (NoSix_tail x b h))
