-- A body to which a zero and the ones behind it are added: its unstuffed bits and the ones that end it.
use Prim.Native.Nat.{ℕ, zero, suc, ◌+◌, ◌-◌, ◌<◌}
use native.Mathlib.Omega.{arith}
use mathlib.Core.Bool.{Bool, true, false}
use mathlib.Core.List.{List, [], ◌∷◌, ◌++◌}
use mathlib.Core.Path.{◌≡◌, refl, ap, ◌∙◌}
use lib.ListN.{replicate}
use lib.Dec.{eqb}
use borrow.Author.Tests.{eqb-true, eqb-false}
use Rattle.hdlc.specs.Stuffing.{unstuff_from, unstuff, end_ones}
use Rattle.hdlc.proofs.Stuffing.{unstuff_from_append, due_after_end_ones}
use Rattle.framing.specs.Machine.{phase_after}
use Rattle.framing.proofs.Framed.{held_bits}

-- ones alone
end_ones_ones : (o n : ℕ) → end_ones (replicate o true) n ≡ n + o
unfolding end_ones
end_ones_ones zero n = omega arith
end_ones_ones (suc o) n = end_ones_ones o (suc n) ∙ omega arith

unstuff_from_ones : (o due : ℕ) → unstuff_from (replicate o true) due ≡ replicate o true
unfolding unstuff_from
unstuff_from_ones zero due = refl
unstuff_from_ones (suc o) zero = ap (◌∷◌ true) (unstuff_from_ones o zero)
unstuff_from_ones (suc o) (suc due) = ap (◌∷◌ true) (unstuff_from_ones o due)

pub end_ones-opened : (o : ℕ) → end_ones (replicate o true) 0 ≡ o
end_ones-opened o = end_ones_ones o 0 ∙ omega arith

pub unstuff-opened : (o : ℕ) → unstuff (replicate o true) ≡ replicate o true
unfolding unstuff
unstuff-opened o = unstuff_from_ones o 5

-- a zero and ones behind bits
end_ones-zero_ones_from : (b : List Bool) (o n : ℕ) → end_ones (b ++ (false ∷ replicate o true)) n ≡ o
unfolding end_ones
end_ones-zero_ones_from [] o n = end_ones-opened o
end_ones-zero_ones_from (true ∷ b) o n = end_ones-zero_ones_from b o (suc n)
end_ones-zero_ones_from (false ∷ b) o n = end_ones-zero_ones_from b o 0

pub end_ones-zero_ones : (b : List Bool) (o : ℕ) → end_ones (b ++ (false ∷ replicate o true)) 0 ≡ o
end_ones-zero_ones b o = end_ones-zero_ones_from b o 0

-- the zero is dropped behind five ones
unstuff_from-zero_ones : (e o : ℕ) → e < 6 → unstuff_from (false ∷ replicate o true) (5 - e) ≡ held_bits (phase_after e) o
unfolding unstuff_from held_bits phase_after
unstuff_from-zero_ones e o h = go (eqb e 5) refl
  where
    go : (t : Bool) → eqb e 5 ≡ t → unstuff_from (false ∷ replicate o true) (5 - e) ≡ held_bits (phase_after e) o
    go true is =
        let due : 5 - e ≡ 0 = omega (arith, eqb-true e 5 is) in
        rw (is, due) (unstuff_from_ones o 5)
    go false is =
        let other : e ≡ 5 → ⊥ = eqb-false e 5 is in
        let due : 5 - e ≡ suc (4 - e) = omega arith in
        rw (is, due) (ap (◌∷◌ false) (unstuff_from_ones o 5))

pub unstuff-zero_ones : (b : List Bool) (o : ℕ) → end_ones b 0 < 6
    → unstuff (b ++ (false ∷ replicate o true)) ≡ unstuff b ++ held_bits (phase_after (end_ones b 0)) o
unfolding unstuff
unstuff-zero_ones b o few =
    rw (unstuff_from_append b (false ∷ replicate o true) 5, due_after_end_ones b, unstuff_from-zero_ones (end_ones b 0) o few)
