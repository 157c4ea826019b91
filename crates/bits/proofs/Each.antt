-- A test of each element of a list, made one element after another: what is left to test, together with what was tested, tells of all.
use mathlib.Core.Path.{◌≡◌, sym, ◌∙◌}
use Prim.Native.Nat.{ℕ, ◌+◌, ◌≤◌, ◌<◌}
use native.Mathlib.Numerals.{add-one}
use native.Mathlib.Omega.{arith}
use mathlib.Core.Bool.{Bool, true, false, not, ◌&&◌}
use mathlib.Core.List.{List, [], ◌∷◌}
use lib.ListN.{length, take, drop, get_or, drop_of_length-le}
use lib.Seq.{drop-cons, get_or-take, length-take-le}
use borrow.Author.Rules.{rules}
use borrow.Author.Tests.{eq-eqb, ne_eqb, lt-ltb, le-ltb, le-leb, lt-leb, not-true, not-false}

-- a test of the code is that of the definition
pub ruleset tests = (eq-eqb, ne_eqb, lt-ltb, le-ltb, le-leb, lt-leb, rules)

-- `each` says of a list that all its elements pass `test`
pub record Each {A : Type 0} (test : A → Bool) (each : List A → Bool) : Type 0 where
  pub none : each [] ≡ true
  pub more : (x : A) (xs : List A) → each (x ∷ xs) ≡ (test x && each xs)

-- the first n elements, of which those from i on pass exactly if all do
module _ {A : Type 0} {test : A → Bool} {each : List A → Bool} (e : Each test each) (d : A) (l : List A) (n i : ℕ) (fits : n ≤ length l)
    (left : each (drop i (take n l)) ≡ each (take n l)) where
  -- element i, and those behind it
  each_at : i < n → each (take n l) ≡ (test (get_or l i d) && each (drop (i + 1) (take n l)))
  each_at h =
      let inside : i < length (take n l) = rw length-take-le (omega arith) in
      sym left ∙ rw (add-one, drop-cons (take n l) i d, get_or-take) (e.more _ _)

  -- b tells of element i: it does not pass
  pub each_out : i < n → (b : Bool) → b ≡ test (get_or l i d) → not b ≡ true → false ≡ each (take n l)
  each_out h b t s = sym (each_at h ∙ rw (← t, not-true b s))

  -- or it passes, and those behind it are left
  pub each_in : i < n → (b : Bool) → b ≡ test (get_or l i d) → not b ≡ false → each (drop (i + 1) (take n l)) ≡ each (take n l)
  each_in h b t s = sym (each_at h ∙ rw (← t, not-false b s))

  -- none is left
  pub each_end : n ≤ i → true ≡ each (take n l)
  each_end h =
      let all : length (take n l) ≤ i = rw length-take-le h in
      sym e.none ∙ (rw (drop_of_length-le (take n l) all) at left)
