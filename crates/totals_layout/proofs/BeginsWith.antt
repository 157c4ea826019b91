-- Bytes that begin with others.
use Prim.Native.Nat.{ℕ}
use mathlib.Core.Bool.{Bool, true, false, ◌&&◌, true≢false}
use mathlib.Core.List.{List, [], ◌∷◌, ◌++◌}
use mathlib.Core.Path.{◌≡◌, refl, sym, ap}
use borrow.Author.Tests.{eq-eqb, ne_eqb, eqb-true, eqb-false}
use lib.ListN.{length, take}
use lib.Dec.{eqb}
use Rattle.std.specs.List.{starts_with}
use Rattle.bits.proofs.Tests.{and_left, and_right}
use Rattle.totals_layout.specs.NoticeSaid.{begins_with}

pub begins_front : (l rest : List ℕ) → begins_with (l ++ rest) l ≡ true
unfolding begins_with
begins_front [] rest = refl
begins_front (x ∷ l) rest = rw (eq-eqb x x refl, begins_front l rest)

pub front_begins : (bytes l : List ℕ) → begins_with bytes l ≡ true → take (length l) bytes ≡ l
unfolding begins_with
front_begins bytes [] e = refl
front_begins [] (x ∷ l) e = absurd (true≢false (sym e))
front_begins (b ∷ bytes) (x ∷ l) e =
    λ i. eqb-true b x (and_left (eqb b x) (begins_with bytes l) e) i ∷ front_begins bytes l (and_right (eqb b x) (begins_with bytes l) e) i

-- the library's test is this one
flipped : (x b : ℕ) → eqb x b ≡ eqb b x
flipped x b = go (eqb b x) refl
  where
    go : (t : Bool) → eqb b x ≡ t → eqb x b ≡ t
    go true e = eq-eqb x b (sym (eqb-true b x e))
    go false e = ne_eqb x b (λ same. eqb-false b x e (sym same))

pub starts_with-eqb : (bytes l : List ℕ) → starts_with eqb bytes l ≡ begins_with bytes l
unfolding begins_with
starts_with-eqb bytes [] = refl
starts_with-eqb [] (x ∷ l) = refl
starts_with-eqb (b ∷ bytes) (x ∷ l) = rw (flipped x b) (ap (λ all. eqb b x && all) (starts_with-eqb bytes l))
