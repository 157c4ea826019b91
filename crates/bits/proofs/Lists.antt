-- Laws of lists: a stretch written over a list (the kit's `sets`), lists that are filled up with one element, and lists joined.
use mathlib.Core.Path.{◌≡◌, refl, sym, ap, ◌∙◌}
use Prim.Native.Nat.{ℕ, zero, suc, ◌+◌, ◌-◌, ◌≤◌}
use native.Mathlib.Nat.{add-zero, zero-add, add-suc, suc-add, sub-zero, zero-sub, suc-sub-suc}
use native.Mathlib.Omega.{arith}
use mathlib.Core.List.{List, [], ◌∷◌, ◌++◌, flatten, append_assoc, append-nil}
use lib.ListN.{length, take, drop, set, replicate, length-append, length-drop, length-replicate, drop_of_length-le, take-append-drop, replicate-append-replicate}
use lib.Seq.{sets, sets-eq, take-set-le, take-set-lt, drop-set-lt, drop-set-add, take_all, take-append_seam, drop-append-add, drop-drop, length-take-le}

module _ {ℓ} {A : Type ℓ} where
  -- two stretches in turn are written as one
  pub sets_append : (l : List A) (i : ℕ) (a b : List A) → sets l i (a ++ b) ≡ sets (sets l i a) (i + length a) b
  sets_append l i [] b = rw add-zero
  sets_append l i (x ∷ a) b = sets_append (set l i x) (suc i) a b ∙ rw (suc-add, add-suc)

  -- two runs of one element in turn, and a run of one element more
  pub sets_runs : (l : List A) (at i k : ℕ) (z : A) → sets (sets l at (replicate i z)) (at + i) (replicate k z) ≡ sets l at (replicate (i + k) z)
  sets_runs l at i k z =
      sym
      (rw (← replicate-append-replicate i k z) (sets_append l at (replicate i z) (replicate k z) ∙ rw length-replicate))

  pub sets_replicate : (l : List A) (at i : ℕ) (z : A) → set (sets l at (replicate i z)) (at + i) z ≡ sets l at (replicate (i + 1) z)
  sets_replicate l at i z = sets_runs l at i 1 z

  -- a stretch written right behind x leaves x and what lies behind the stretch
  pub sets_behind : (x y v : List A) → length v ≤ length y → sets (x ++ y) (length x) v ≡ x ++ (v ++ drop (length v) y)
  sets_behind x y v h =
      let fits : length x + length v ≤ length (x ++ y) = rw length-append (omega arith) in
      sets-eq v (x ++ y) (length x) fits ∙ rw (take-append_seam, drop-append-add, append_assoc)

  -- one written from the start on stands before what lies behind it
  pub sets_front : (l v : List A) → length v ≤ length l → sets l 0 v ≡ v ++ drop (length v) l
  sets_front l v h = sets_behind [] l v h

  -- an element stored behind x
  pub set_append_add : (x y : List A) (n : ℕ) (a : A) → set (x ++ y) (length x + n) a ≡ x ++ set y n a
  set_append_add [] y n a = rw zero-add
  set_append_add (b ∷ x) y n a = rw suc-add (ap (λ (r : List A). b ∷ r) (set_append_add x y n a))

  -- what is left of a run of equal elements is a run
  pub drop-replicate : (m k : ℕ) (z : A) → drop m (replicate k z) ≡ replicate (k - m) z
  drop-replicate zero k z = rw sub-zero
  drop-replicate (suc m) zero z = rw zero-sub
  drop-replicate (suc m) (suc k) z = rw suc-sub-suc (drop-replicate m k z)

  -- what is left of a list with a run behind it
  pub drop_append_replicate : (m k : ℕ) (l : List A) (z : A) → drop m (l ++ replicate k z) ≡ drop m l ++ replicate (k - (m - length l)) z
  drop_append_replicate zero k l z = rw (zero-sub, sub-zero)
  drop_append_replicate (suc m) k [] z = rw sub-zero (drop-replicate (suc m) k z)
  drop_append_replicate (suc m) k (x ∷ l) z = rw suc-sub-suc (drop_append_replicate m k l z)

  -- the first m filled up to m, then the rest filled up to n: all filled up to m + n
  pub fill-take-drop : (m n : ℕ) (l : List A) (z : A)
      → (take m l ++ replicate (m - length (take m l)) z) ++ (drop m l ++ replicate (n - length (drop m l)) z) ≡ l ++ replicate (m + n - length l) z
  fill-take-drop zero n l z = rw zero-add
  fill-take-drop (suc m) n [] z = simp sub-zero (replicate-append-replicate (suc m) n z)
  fill-take-drop (suc m) n (x ∷ l) z = simp (suc-add, suc-sub-suc) (ap (λ (r : List A). x ∷ r) (fill-take-drop m n l z))

  -- a stretch written behind x
  pub sets_append_add : (x y : List A) (n : ℕ) (v : List A) → sets (x ++ y) (length x + n) v ≡ x ++ sets y n v
  sets_append_add x y n [] = refl
  sets_append_add x y n (b ∷ v) = rw (set_append_add, ← add-suc) (sets_append_add x (set y n b) (suc n) v)

  -- a stretch in the place of as many elements
  pub sets_mid : (l v : List A) (a k : ℕ) → length v ≡ k → a + k ≤ length l → take a l ++ (v ++ drop k (drop a l)) ≡ sets l a v
  sets_mid l v a k e h =
      let fits : a + length v ≤ length l = omega arith in
      sym (sets-eq v l a fits ∙ rw (e, ← drop-drop k a l, append_assoc))

  -- a list whose part from a on has v written at n: v is written at a + n
  pub sets_part_at : (a n : ℕ) (l v p : List A) → a ≤ length l → p ≡ sets (take (length l - a) (drop a l)) n v
      → take a l ++ (p ++ drop (length l - a) (drop a l)) ≡ sets l (a + n) v
  sets_part_at a n l v p inside e =
      let all : length (drop a l) ≤ length l - a = omega (arith, length-drop a l) in
      let part : p ≡ sets (drop a l) n v = e ∙ rw (take_all (length l - a) (drop a l) all) in
      let whole : sets (take a l ++ drop a l) (length (take a l) + n) v ≡ take a l ++ sets (drop a l) n v = sets_append_add (take a l) (drop a l) n v in
      rw (part, drop_of_length-le (drop a l) all, append-nil) (sym (rw (take-append-drop, length-take-le a l inside) at whole))

  -- the same, with v written to the part's start
  pub sets_part : (a : ℕ) (l v p : List A) → a + length v ≤ length l → p ≡ sets (take (length l - a) (drop a l)) 0 v
      → take a l ++ (p ++ drop (length l - a) (drop a l)) ≡ sets l a v
  sets_part a l v p fits e = sets_part_at a 0 l v p (omega arith) e ∙ rw add-zero

  -- a stretch lies before what is dropped, behind what is taken, within it, or behind what is dropped
  pub drop_sets_before : (v : List A) (n : ℕ) (l : List A) (i : ℕ) → i + length v ≤ n → drop n (sets l i v) ≡ drop n l
  drop_sets_before [] n l i h = refl
  drop_sets_before (a ∷ v) n l i h = drop_sets_before v n (set l i a) (suc i) (omega arith) ∙ drop-set-lt n l i a (omega arith)

  pub take_sets_behind : (v : List A) (m : ℕ) (l : List A) (i : ℕ) → m ≤ i → take m (sets l i v) ≡ take m l
  take_sets_behind [] m l i h = refl
  take_sets_behind (a ∷ v) m l i h = take_sets_behind v m (set l i a) (suc i) (omega arith) ∙ take-set-le m l i a h

  pub take_sets_inside : (v : List A) (m : ℕ) (l : List A) (i : ℕ) → i + length v ≤ m → take m (sets l i v) ≡ sets (take m l) i v
  take_sets_inside [] m l i h = refl
  take_sets_inside (a ∷ v) m l i h = take_sets_inside v m (set l i a) (suc i) (omega arith) ∙ rw (take-set-lt m l i a (omega arith))

  pub drop_sets_add : (v : List A) (n : ℕ) (l : List A) (i : ℕ) → drop n (sets l (n + i) v) ≡ sets (drop n l) i v
  drop_sets_add [] n l i = refl
  drop_sets_add (a ∷ v) n l i = rw (← add-suc n i, ← drop-set-add n l i a) (drop_sets_add v n (set l (n + i) a) (suc i))

  -- lists of lists, joined
  pub flatten_append : (xs ys : List (List A)) → flatten (xs ++ ys) ≡ flatten xs ++ flatten ys
  unfolding flatten
  flatten_append [] ys = refl
  flatten_append (x ∷ xs) ys = rw (flatten_append xs ys, append_assoc)
