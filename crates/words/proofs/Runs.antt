-- Runs of ones by the tests that the code makes on numbers: where five ones in a row begin, and how many end a word.
use Prim.Native.Nat.{ℕ, zero, suc, ◌+◌, ◌-◌, ◌*◌, ◌/◌, ◌^◌, ◌≤◌, ◌<◌, min}
use native.Mathlib.Nat.{zero-add, zero-min, min-zero, suc-min-suc, pow-suc}
use native.Mathlib.Omega.{arith}
use mathlib.Core.Bool.{Bool, true, false, cond, ◌&&◌}
use mathlib.Core.List.{◌∷◌}
use mathlib.Core.Path.{◌≡◌, refl, sym, ap, ◌∙◌}
use lib.Count.{count_leading_zeros, count_trailing_zeros, leading_length, leading_unique, leading_of_zero}
use lib.Dec.{eqb}
use lib.Pow.{pow_pos}
use borrow.Author.Tests.{eqb-true, eqb-false}
use Rattle.bits.specs.Bits.{odd, low_bits}
use Rattle.fcs.proofs.Bytewise.{odd_even}
use Rattle.hdlc.specs.Stuffing.{end_ones}
use Rattle.hdlc.specs.Chunks.{five_ones}
use Rattle.hdlc.proofs.FiveOnes.{five_half, odd_five, digit, odd_is, by_bit, halved, behind_ones, above, half_above, one_more, none_before, fifth_here}
use Rattle.words.specs.Runs.{until_five}

-- ---- a zero among five bits

and-false : (a : Bool) → a && false ≡ false
and-false true = refl
and-false false = refl

fives_none : (j x : ℕ) → j ≤ 4 → odd (x / 2 ^ j) ≡ false → odd (five_ones x) ≡ false
fives_none zero x h e =
    let f : x / 2 ^ 0 ≡ x = omega arith in
    odd_five x ∙ rw (ap odd (sym f) ∙ e)
fives_none (suc zero) x h e = odd_five x ∙ rw (e, and-false)
fives_none (suc (suc zero)) x h e = odd_five x ∙ rw (e, and-false)
fives_none (suc (suc (suc zero))) x h e = odd_five x ∙ rw (e, and-false, and-false)
fives_none (suc (suc (suc (suc zero)))) x h e = odd_five x ∙ rw (e, and-false)
fives_none (suc (suc (suc (suc (suc j))))) x h e = absurd (omega arith)

-- ---- zeros below the lowest one

trailing_even : (k n : ℕ) → odd n ≡ false → count_trailing_zeros (suc k) n ≡ suc (count_trailing_zeros k (n / 2))
unfolding count_trailing_zeros
trailing_even k n e = rw (digit n false e)

trailing_odd : (k n : ℕ) → odd n ≡ true → count_trailing_zeros (suc k) n ≡ 0
unfolding count_trailing_zeros
trailing_odd k n e = rw (digit n true e)

-- no five ones begin up to a zero that at most four ones stand before
pub fives_through : (o k x : ℕ) → o ≤ 4 → odd (x / 2 ^ o) ≡ false →
    count_trailing_zeros (suc o + k) (five_ones x) ≡ suc o + count_trailing_zeros k (five_ones (x / 2 ^ suc o))
fives_through zero k x h e =
    let a : 1 + k ≡ suc k = omega arith in
    let b : suc (count_trailing_zeros k (five_ones (x / 2))) ≡ 1 + count_trailing_zeros k (five_ones (x / 2)) = omega arith in
    ap (λ (i : ℕ). count_trailing_zeros i (five_ones x)) a ∙ trailing_even k (five_ones x) (fives_none 0 x h e)
    ∙ ap (λ (n : ℕ). suc (count_trailing_zeros k n)) (five_half x) ∙ b
fives_through (suc o) k x h e =
    let a : x / 2 / 2 ^ o ≡ x / 2 ^ suc o = halved x o in
    let b : x / 2 / 2 ^ suc o ≡ x / 2 ^ suc (suc o) = halved x (suc o) in
    let c : suc (suc o) + k ≡ suc (suc o + k) = omega arith in
    let d : suc (suc o + count_trailing_zeros k (five_ones (x / 2 ^ suc (suc o)))) ≡ suc (suc o) + count_trailing_zeros k (five_ones (x / 2 ^ suc (suc o))) = omega arith in
    ap (λ (i : ℕ). count_trailing_zeros i (five_ones x)) c ∙ trailing_even (suc o + k) (five_ones x) (fives_none (suc o) x h e)
    ∙ ap (λ (n : ℕ). suc (count_trailing_zeros (suc o + k) n)) (five_half x)
    ∙ ap suc (fives_through o k (x / 2) (omega arith) (ap odd a ∙ e))
    ∙ ap (λ (n : ℕ). suc (suc o + count_trailing_zeros k (five_ones n))) b ∙ d

-- ---- up to the fifth one

-- a zero: what is behind it counts from no one
until_zero : (n o w k : ℕ) → o ≤ 4 → o + suc n ≤ k → odd w ≡ false →
    ((j : ℕ) → n ≤ j → until_five (low_bits n (w / 2)) 0 ≡ min n (count_trailing_zeros j (five_ones (behind_ones 0 (w / 2))) + 5 - 0)) →
    suc (until_five (low_bits n (w / 2)) 0) ≡ min (suc n) (count_trailing_zeros k (five_ones (behind_ones o w)) + 5 - o)
until_zero n o w k h l e rest =
    let j : ℕ = k - suc o in
    let s : k ≡ suc o + j = omega arith in
    let t : ℕ = count_trailing_zeros j (five_ones (w / 2)) in
    let through : count_trailing_zeros k (five_ones (behind_ones o w)) ≡ suc o + t =
    ap (λ (i : ℕ). count_trailing_zeros i (five_ones (behind_ones o w))) s ∙ fives_through o j (behind_ones o w) h (ap odd (above o w) ∙ e)
    ∙ ap (λ (x : ℕ). suc o + count_trailing_zeros j (five_ones x)) (half_above o w) in
    let a : suc o + t + 5 - o ≡ suc (t + 5 - 0) = omega arith in
    ap suc (rest j (omega arith) ∙ ap (λ (x : ℕ). min n (count_trailing_zeros j (five_ones x) + 5 - 0)) (none_before (w / 2)))
    ∙ sym (suc-min-suc n (t + 5 - 0)) ∙ ap (min (suc n)) (sym a) ∙ ap (λ (x : ℕ). min (suc n) (x + 5 - o)) (sym through)

-- a one: the fifth, or one more before it
until_one : (n o w k : ℕ) → o ≤ 4 → o + suc n ≤ k → odd w ≡ true →
    (suc o ≤ 4 → until_five (low_bits n (w / 2)) (suc o) ≡ min n (count_trailing_zeros k (five_ones (behind_ones (suc o) (w / 2))) + 5 - suc o)) →
    cond (eqb o 4) 1 (suc (until_five (low_bits n (w / 2)) (suc o))) ≡ min (suc n) (count_trailing_zeros k (five_ones (behind_ones o w)) + 5 - o)
until_one n o w k h l e rest = go (eqb o 4) refl
  where
    go : (t : Bool) → eqb o 4 ≡ t → cond t 1 (suc (until_five (low_bits n (w / 2)) (suc o))) ≡ min (suc n) (count_trailing_zeros k (five_ones (behind_ones o w)) + 5 - o)
    go true q =
        let four : o ≡ 4 = eqb-true o 4 q in
        let s : k ≡ suc (k - 1) = omega arith in
        let none : count_trailing_zeros k (five_ones (behind_ones o w)) ≡ 0 =
        ap (λ (i : ℕ). count_trailing_zeros k (five_ones (behind_ones i w))) four ∙ ap (λ (i : ℕ). count_trailing_zeros i (five_ones (behind_ones 4 w))) s
        ∙ trailing_odd (k - 1) (five_ones (behind_ones 4 w)) (fifth_here w e) in
        let a : 0 + 5 - o ≡ suc 0 = omega arith in
        sym (ap (λ (x : ℕ). min (suc n) (x + 5 - o)) none ∙ ap (min (suc n)) a ∙ suc-min-suc n 0 ∙ ap suc (min-zero n))
    go false q =
        let other : o ≡ 4 → ⊥ = eqb-false o 4 q in
        let x : ℕ = count_trailing_zeros k (five_ones (behind_ones (suc o) (w / 2))) in
        let a : x + 5 - o ≡ suc (x + 5 - suc o) = omega arith in
        ap suc (rest (omega arith)) ∙ sym (suc-min-suc n (x + 5 - suc o)) ∙ ap (min (suc n)) (sym a)
        ∙ ap (λ (y : ℕ). min (suc n) (count_trailing_zeros k (five_ones y) + 5 - o)) (sym (one_more o w e))

pub until-five : (n o w k : ℕ) → o ≤ 4 → o + n ≤ k →
    until_five (low_bits n w) o ≡ min n (count_trailing_zeros k (five_ones (behind_ones o w)) + 5 - o)
unfolding until_five low_bits
until-five zero o w k h l = sym (zero-min _)
until-five (suc n) o w k h l =
    by_bit (λ t. until_five (t ∷ low_bits n (w / 2)) o ≡ min (suc n) (count_trailing_zeros k (five_ones (behind_ones o w)) + 5 - o)) w
    (λ e. until_zero n o w k h l e (λ j m. until-five n 0 (w / 2) j (omega arith) (omega arith)))
    (λ e. until_one n o w k h l e (λ m. until-five n (suc o) (w / 2) k m (omega arith)))

-- of a word: within it, or all of it
pub until_min : (o w x m : ℕ) → o ≤ 4 → x ≡ behind_ones o w → m ≡ min (count_trailing_zeros 64 (five_ones x) + 5 - o) 56 → m ≡ until_five (low_bits 56 w) o
until_min o w x m h b e =
    let k : ℕ = count_trailing_zeros 64 (five_ones (behind_ones o w)) + 5 - o in
    let swapped : min k 56 ≡ min 56 k = omega arith in
    rw b at e ∙ swapped ∙ sym (until-five 56 o w 64 h (omega arith))

-- ---- the ones that end a word

-- all bits but for the highest ones: those of the complement
complement_half : (k w : ℕ) → w < 2 ^ suc k → (2 ^ suc k - 1 - w) / 2 ≡ 2 ^ k - 1 - w / 2
complement_half k w h =
    let p : 2 ^ suc k ≡ 2 ^ k * 2 = pow-suc 2 k in
    omega arith

leading_half : (k n : ℕ) → 0 < n → count_leading_zeros (suc k) n ≡ count_leading_zeros k (n / 2)
unfolding count_leading_zeros
leading_half k zero h = absurd (omega arith)
leading_half k (suc n) h = refl

pub end_ones_all : (k o : ℕ) → end_ones (low_bits k (2 ^ k - 1)) o ≡ k + o
unfolding end_ones low_bits
end_ones_all zero o = sym (zero-add o)
end_ones_all (suc k) o =
    let pos : 0 < 2 ^ k = pow_pos k in
    let p : 2 ^ suc k ≡ 2 ^ k * 2 = pow-suc 2 k in
    let a : (2 ^ suc k - 1) / 2 ≡ 2 ^ k - 1 = omega arith in
    let b : odd (2 ^ suc k - 1) ≡ true = odd_is (2 ^ suc k - 1) (omega arith) in
    let c : k + suc o ≡ suc k + o = omega arith in
    rw (b, a) (end_ones_all k (suc o) ∙ c)

-- the highest ones of a number that has a zero: the ones before it do not count
pub end-ones : (k w o : ℕ) → w < 2 ^ k → (w ≡ 2 ^ k - 1 → ⊥) → end_ones (low_bits k w) o ≡ count_leading_zeros k (2 ^ k - 1 - w)
unfolding end_ones low_bits
end-ones zero w o h other = absurd (other (omega arith))
end-ones (suc k) w o h other =
    let p : 2 ^ suc k ≡ 2 ^ k * 2 = pow-suc 2 k in
    let pos : 0 < 2 ^ k = pow_pos k in
    let some : 0 < 2 ^ suc k - 1 - w = omega (arith, other) in
    let left : count_leading_zeros (suc k) (2 ^ suc k - 1 - w) ≡ count_leading_zeros k (2 ^ k - 1 - w / 2) =
    leading_half k (2 ^ suc k - 1 - w) some ∙ ap (count_leading_zeros k) (complement_half k w h) in
    go (eqb (w / 2) (2 ^ k - 1)) refl (λ i not. end-ones k (w / 2) i (omega arith) not) ∙ sym left
  where
    go : (t : Bool) → eqb (w / 2) (2 ^ k - 1) ≡ t → ((i : ℕ) → (w / 2 ≡ 2 ^ k - 1 → ⊥) → end_ones (low_bits k (w / 2)) i ≡ count_leading_zeros k (2 ^ k - 1 - w / 2)) →
        end_ones (odd w ∷ low_bits k (w / 2)) o ≡ count_leading_zeros k (2 ^ k - 1 - w / 2)
    go false e rest =
        by_bit (λ t. end_ones (t ∷ low_bits k (w / 2)) o ≡ count_leading_zeros k (2 ^ k - 1 - w / 2)) w (λ _. rest 0 (eqb-false _ _ e))
        (λ _. rest (suc o) (eqb-false _ _ e))
    go true e rest =
        let p : 2 ^ suc k ≡ 2 ^ k * 2 = pow-suc 2 k in
        let pos : 0 < 2 ^ k = pow_pos k in
        let all : w / 2 ≡ 2 ^ k - 1 = eqb-true _ _ e in
        let even : odd w ≡ false = odd_even w (omega (arith, other)) in
        let none : 2 ^ k - 1 - w / 2 ≡ 0 = omega arith in
        let z : k + 0 ≡ k = omega arith in
        ap (λ (t : Bool). end_ones (t ∷ low_bits k (w / 2)) o) even ∙ ap (λ (v : ℕ). end_ones (low_bits k v) 0) all ∙ end_ones_all k 0 ∙ z
        ∙ sym (ap (count_leading_zeros k) none ∙ leading_of_zero k)

-- more digits are more zeros
pub leading_more : (j k n : ℕ) → n < 2 ^ k → count_leading_zeros (j + k) n ≡ j + count_leading_zeros k n
leading_more j k n h =
    let m = leading_length k n h in
    sym (leading_unique (j + k) n (j + count_leading_zeros k n) m.0 (omega (arith, m.1)) m.2 m.3)
