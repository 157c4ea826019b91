-- Which circuit numbers take long messages, and how long theirs may be.
use Prim.Native.Nat.{ℕ, ◌≤◌, ◌<◌}
use native.Mathlib.Omega.{arith}
use lib.Dec.{eqb}
use borrow.Author.Tests.{eqb-true}
use mathlib.Core.Path.{◌≡◌, refl}
use mathlib.Core.Bool.{Bool, true, false, cond}
use Rattle.packet.specs.Messages.{longest, longest_long}
use Rattle.packet.specs.Stores.{takes_long, longest_at}

-- the longest at any number is between the two lengths
pub longest_at_bounds : (given : Bool) (c : ℕ) → (longest ≤ longest_at given c) × (longest_at given c ≤ longest_long)
unfolding longest_at longest longest_long
longest_at_bounds given c = go (takes_long given c)
  where
    go : (t : Bool) → (longest ≤ cond t longest_long longest) × (cond t longest_long longest ≤ longest_long)
    go true = (omega arith, omega arith)
    go false = (omega arith, omega arith)

-- a longer message is at a number that takes long ones, so a buffer is given
pub longer_given : (given : Bool) (c n : ℕ) → n ≤ longest_at given c → longest < n → (given ≡ true) × (c ≡ 0)
unfolding longest_at takes_long
longer_given true c n h more = (refl, go (eqb c 0) refl h)
  where
    go : (t : Bool) → eqb c 0 ≡ t → n ≤ cond t longest_long longest → c ≡ 0
    go true e _ = eqb-true c 0 e
    go false e below = absurd (omega arith)
longer_given false c n h more = absurd (omega arith)

-- and no shorter with a buffer than without
pub longest_at-given : (given : Bool) (c : ℕ) → longest_at given c ≤ longest_at true c
unfolding longest_at takes_long longest longest_long
longest_at-given true c = omega arith
longest_at-given false c = omega (arith, (longest_at_bounds true c).0)
