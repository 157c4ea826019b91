-- Numbers in a row.
use Prim.Native.Nat.{ℕ, zero, suc, ◌+◌, ◌<◌}
use native.Mathlib.Omega.{arith}
use native.Mathlib.Nat.{add-zero}
use mathlib.Core.Bool.{not}
use mathlib.Core.List.{List, [], ◌∷◌, map}
use mathlib.Core.Path.{◌≡◌, refl, sym, ap, ◌∙◌}
use lib.ListN.{length, get_or}
use lib.Dec.{eqb}
use borrow.Author.Tests.{ne_eqb}
use Rattle.packet.specs.Lists.{those}

-- n numbers from d on
unfoldable pub numbers_from : ℕ → ℕ → List ℕ
numbers_from d zero = []
numbers_from d (suc n) = d ∷ numbers_from (suc d) n

pub length_numbers_from : (d n : ℕ) → length (numbers_from d n) ≡ n
unfolding numbers_from
length_numbers_from d zero = refl
length_numbers_from d (suc n) = ap suc (length_numbers_from (suc d) n)

-- a lower one is not among them
pub lower_numbers_from : (d m n : ℕ) → d < m → those (λ i. not (eqb i d)) (numbers_from m n) ≡ numbers_from m n
unfolding numbers_from those
lower_numbers_from d m zero h = refl
lower_numbers_from d m (suc n) h =
    let apart : m ≡ d → ⊥ = omega arith in
    rw (ne_eqb m d apart) (ap (λ l. m ∷ l) (lower_numbers_from d (suc m) n (omega arith)))

-- what is made of the i-th
pub get_or_numbers_from : {A : Type 0} (f : ℕ → A) (other : A) (d n i : ℕ) → i < n → get_or (map f (numbers_from d n)) i other ≡ f (d + i)
unfolding numbers_from
get_or_numbers_from f other d zero i h = absurd (omega arith)
get_or_numbers_from f other d (suc n) zero h = ap f (sym (add-zero d))
get_or_numbers_from f other d (suc n) (suc i) h = get_or_numbers_from f other (suc d) n i (omega arith) ∙ ap f (omega arith)
