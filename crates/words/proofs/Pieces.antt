-- Bits up to the fifth one in a row, and bits without six ones in a row, where o ones stand before them: what they leave, and that unstuffing keeps the first.
use Prim.Native.Nat.{ℕ, suc, ◌+◌, ◌-◌, ◌/◌, ◌^◌, ◌≤◌, ◌<◌}
use native.Mathlib.Omega.{arith}
use mathlib.Core.Bool.{Bool, true, false, cond}
use mathlib.Core.List.{List, [], ◌∷◌}
use mathlib.Core.Logic.{◌⊎◌, inl, inr}
use mathlib.Core.Path.{◌≡◌, refl, sym, ap, ◌∙◌}
use lib.Count.{count_leading_zeros}
use lib.Dec.{leb, eqb}
use lib.ListN.{length, take}
use lib.Seq.{take_all, length-take-le}
use borrow.Author.Tests.{eqb-true, eqb-false, le-leb, leb-true}
use Rattle.bits.specs.Bits.{odd, low_bits}
use Rattle.bits.proofs.Bits.{length-low_bits}
use Rattle.bits.proofs.Tests.{and_left, and_right, and_both}
use Rattle.hdlc.specs.Stuffing.{unstuff_from, end_ones}
use Rattle.words.specs.Runs.{until_five, no_six}
use Rattle.words.proofs.Runs.{end_ones_all, end-ones}

-- the bits of a list up to the fifth one in a row
pub data Piece : List Bool → ℕ → List Bool → Type 0 where
  none : (o : ℕ) → Piece [] o []
  fifth : (bs : List Bool) → Piece (true ∷ bs) 4 (true ∷ [])
  one : (bs p : List Bool) (o : ℕ) → o < 4 → Piece bs (suc o) p → Piece (true ∷ bs) o (true ∷ p)
  zeroed : (bs p : List Bool) (o : ℕ) → Piece bs 0 p → Piece (false ∷ bs) o (false ∷ p)

pub piece_is : (bs : List Bool) (o : ℕ) → o ≤ 4 → Piece bs o (take (until_five bs o) bs)
unfolding until_five
piece_is [] o h = none o
piece_is (false ∷ bs) o h = zeroed bs (take (until_five bs 0) bs) o (piece_is bs 0 (omega arith))
piece_is (true ∷ bs) o h = go (eqb o 4) refl (λ l. piece_is bs (suc o) l)
  where
    go : (t : Bool) → eqb o 4 ≡ t → (suc o ≤ 4 → Piece bs (suc o) (take (until_five bs (suc o)) bs)) →
        Piece (true ∷ bs) o (take (cond t 1 (suc (until_five bs (suc o)))) (true ∷ bs))
    go true e rest = rw (eqb-true o 4 e) (fifth bs)
    go false e rest =
        let other : o ≡ 4 → ⊥ = eqb-false o 4 e in
        one bs (take (until_five bs (suc o)) bs) o (omega arith) (rest (omega arith))

-- no six ones
pub piece_no_six : {bs p : List Bool} {o : ℕ} → Piece bs o p → o ≤ 4 → no_six p o ≡ true
unfolding no_six
piece_no_six (none o) h = le-leb o 5 (omega arith)
piece_no_six (fifth bs) h = refl
piece_no_six (one bs p o l q) h = piece_no_six q (omega arith)
piece_no_six (zeroed bs p o q) h = and_both (leb o 5) (no_six p 0) (le-leb o 5 (omega arith)) (piece_no_six q (omega arith))

-- nothing is dropped
due : (o : ℕ) → o ≤ 4 → 5 - o ≡ suc (5 - suc o)
due o h = omega arith

pub piece_unstuffed : {bs p : List Bool} {o : ℕ} → Piece bs o p → o ≤ 4 → unstuff_from p (5 - o) ≡ p
unfolding unstuff_from
piece_unstuffed (none o) h = refl
piece_unstuffed (fifth bs) h = refl
piece_unstuffed (one bs p o l q) h = ap (unstuff_from (true ∷ p)) (due o h) ∙ ap (λ (r : List Bool). true ∷ r) (piece_unstuffed q (omega arith))
piece_unstuffed (zeroed bs p o q) h = ap (unstuff_from (false ∷ p)) (due o h) ∙ ap (λ (r : List Bool). false ∷ r) (piece_unstuffed q (omega arith))

-- all bits, or five ones and perhaps more before them
pub piece_long : {bs p : List Bool} {o : ℕ} → Piece bs o p → (length p ≡ length bs) ⊎ (5 ≤ o + length p)
piece_long (none o) = inl refl
piece_long (fifth bs) = inr (omega arith)
piece_long (one bs p o l q) = go (piece_long q)
  where
    go : (length p ≡ length bs) ⊎ (5 ≤ suc o + length p) → (suc (length p) ≡ suc (length bs)) ⊎ (5 ≤ o + suc (length p))
    go (inl e) = inl (ap suc e)
    go (inr e) = inr (omega arith)
piece_long (zeroed bs p o q) = go (piece_long q)
  where
    go : (length p ≡ length bs) ⊎ (5 ≤ 0 + length p) → (suc (length p) ≡ suc (length bs)) ⊎ (5 ≤ o + suc (length p))
    go (inl e) = inl (ap suc e)
    go (inr e) = inr (omega arith)

-- five ones end it, if it is not all
pub piece_ends : {bs p : List Bool} {o : ℕ} → Piece bs o p → length p < length bs → end_ones p o ≡ 5
unfolding end_ones
piece_ends (none o) h = absurd (omega arith)
piece_ends (fifth bs) h = refl
piece_ends (one bs p o l q) h = piece_ends q (omega arith)
piece_ends (zeroed bs p o q) h = piece_ends q (omega arith)

-- ---- ones that end bits without six in a row

pub no_six_le : (bs : List Bool) (o : ℕ) → no_six bs o ≡ true → o ≤ 5
unfolding no_six
no_six_le [] o h = leb-true o 5 h
no_six_le (true ∷ bs) o h = omega (arith, no_six_le bs (suc o) h)
no_six_le (false ∷ bs) o h = leb-true o 5 (and_left (leb o 5) (no_six bs 0) h)

pub no_six_ends : (bs : List Bool) (o : ℕ) → no_six bs o ≡ true → end_ones bs o ≤ 5
unfolding no_six end_ones
no_six_ends [] o h = leb-true o 5 h
no_six_ends (true ∷ bs) o h = no_six_ends bs (suc o) h
no_six_ends (false ∷ bs) o h = no_six_ends bs 0 (and_right (leb o 5) (no_six bs 0) h)

-- a word of ones alone has six
pub no_six_word : (k w o : ℕ) → 6 ≤ k → no_six (low_bits k w) o ≡ true → w ≡ 2 ^ k - 1 → ⊥
no_six_word k w o h n e =
    let most : end_ones (low_bits k w) o ≤ 5 = no_six_ends (low_bits k w) o n in
    let all : end_ones (low_bits k w) o ≡ k + o = ap (λ (v : ℕ). end_ones (low_bits k v) o) e ∙ end_ones_all k o in
    omega arith

-- ---- of a word

-- by its leading zeros
pub ends_all : (w o r : ℕ) → w < 2 ^ 56 → no_six (low_bits 56 w) o ≡ true → r ≡ count_leading_zeros 56 (2 ^ 56 - 1 - w) →
    (r ≡ end_ones (low_bits 56 w) o) × (r ≤ 5)
ends_all w o r h n e =
    let same : r ≡ end_ones (low_bits 56 w) o = e ∙ sym (end-ones 56 w o h (no_six_word 56 w o (omega arith) n)) in
    (same, rw same (no_six_ends (low_bits 56 w) o n))

-- up to the fifth one in a row
until_most : (bs : List Bool) (o : ℕ) → until_five bs o ≤ length bs
unfolding until_five
until_most [] o = omega arith
until_most (false ∷ bs) o = omega (arith, until_most bs 0)
until_most (true ∷ bs) o = go (eqb o 4) (until_most bs (suc o))
  where
    go : (t : Bool) → until_five bs (suc o) ≤ length bs → cond t 1 (suc (until_five bs (suc o))) ≤ suc (length bs)
    go true l = omega arith
    go false l = omega arith

pub until_word : (w o : ℕ) → until_five (low_bits 56 w) o ≤ 56
until_word w o = omega (arith, until_most (low_bits 56 w) o, length-low_bits 56 w)

until_some : (b : Bool) (bs : List Bool) (o : ℕ) → 0 < until_five (b ∷ bs) o
unfolding until_five
until_some false bs o = omega arith
until_some true bs o = go (eqb o 4)
  where
    go : (t : Bool) → 0 < cond t 1 (suc (until_five bs (suc o)))
    go true = omega arith
    go false = omega arith

pub until_least : (w o : ℕ) → 0 < until_five (low_bits 56 w) o
unfolding low_bits
until_least w o = until_some (odd w) (low_bits 55 (w / 2)) o

module _ (w o n : ℕ) (few : o ≤ 4) (is : n ≡ until_five (low_bits 56 w) o) where
  first : Piece (low_bits 56 w) o (take n (low_bits 56 w))
  first = rw is (piece_is (low_bits 56 w) o few)

  long : length (take n (low_bits 56 w)) ≡ n
  long = length-take-le n (low_bits 56 w) (omega (arith, until_word w o, length-low_bits 56 w))

  pub until_ends : n < 56 → 5 ≡ end_ones (take n (low_bits 56 w)) o
  until_ends h = sym (piece_ends first (omega (arith, long, length-low_bits 56 w)))

  pub until_ends_all : (r : ℕ) → w < 2 ^ 56 → 56 ≤ n → r ≡ count_leading_zeros 56 (2 ^ 56 - 1 - w) → (r ≡ end_ones (take n (low_bits 56 w)) o) × (r ≤ 5)
  until_ends_all r h m e =
      let all : take n (low_bits 56 w) ≡ low_bits 56 w = take_all n (low_bits 56 w) (omega (arith, length-low_bits 56 w)) in
      rw all (ends_all w o r h (rw all at (piece_no_six first few)) e)
