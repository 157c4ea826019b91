-- Lists all of whose elements are so, or pass a test; a list's first elements.
use Prim.Native.Nat.{ℕ, zero, suc, ◌≤◌, ◌<◌, min}
use native.Mathlib.Omega.{arith}
use mathlib.Core.List.{List, [], ◌∷◌, ◌++◌}
use mathlib.Core.Bool.{Bool, true, false}
use mathlib.Core.Path.{◌≡◌, refl, sym, ◌∙◌}
use borrow.Author.Tests.{leb-true, leb-false}
use lib.Dec.{leb}
use lib.ListN.{length, take, set, replicate}
use lib.Seq.{take_all}
use Rattle.bits.proofs.Each.{Each}
use Rattle.packet.specs.Lists.{all_of, AllAre}

-- the laws of a test of each element
pub each_all_of : {A : Type 0} (test : A → Bool) → Each test (all_of test)
unfolding all_of
each_all_of test = record { none = refl; more = λ x xs. refl }

module _ {A : Type 0} (P : A → Type 0) where
  pub AllAre_append : (a b : List A) → AllAre P a → AllAre P b → AllAre P (a ++ b)
  unfolding AllAre
  AllAre_append [] b h k = k
  AllAre_append (x ∷ a) b h k = (h.0, AllAre_append a b h.1 k)

  pub AllAre_parts : (a b : List A) → AllAre P (a ++ b) → AllAre P a × AllAre P b
  unfolding AllAre
  AllAre_parts [] b h = (tt, h)
  AllAre_parts (x ∷ a) b h = let (front, behind) = AllAre_parts a b h.1 in ((h.0, front), behind)

  pub AllAre-take : (n : ℕ) (l : List A) → AllAre P l → AllAre P (take n l)
  unfolding AllAre
  AllAre-take zero l h = tt
  AllAre-take (suc n) [] h = tt
  AllAre-take (suc n) (x ∷ l) h = (h.0, AllAre-take n l h.1)

  pub AllAre-replicate : (n : ℕ) (x : A) → P x → AllAre P (replicate n x)
  unfolding AllAre
  AllAre-replicate zero x h = tt
  AllAre-replicate (suc n) x h = (h, AllAre-replicate n x h)

  pub AllAre-set : (l : List A) (i : ℕ) (x : A) → P x → AllAre P l → AllAre P (set l i x)
  unfolding AllAre
  AllAre-set [] i x h k = tt
  AllAre-set (y ∷ l) zero x h k = (h, k.1)
  AllAre-set (y ∷ l) (suc i) x h k = (k.0, AllAre-set l i x h k.1)

-- the first n of a list, which may have fewer
pub take_min : {A : Type 0} (n : ℕ) (l : List A) → take (min n (length l)) l ≡ take n l
take_min n l = go (leb n (length l)) refl
  where
    go : (t : Bool) → leb n (length l) ≡ t → take (min n (length l)) l ≡ take n l
    go true e =
        let h : n ≤ length l = leb-true n (length l) e in
        let least : min n (length l) ≡ n = omega arith in
        rw least
    go false e =
        let h : length l < n = leb-false n (length l) e in
        let least : length l ≤ min n (length l) = omega arith in
        take_all (min n (length l)) l least ∙ sym (take_all n l (omega arith))
