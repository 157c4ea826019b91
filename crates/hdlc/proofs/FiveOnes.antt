-- Five ones in a row by the test that the code makes on a number, and bits that have none: stuffing puts no 0 into them.
use Prim.Native.Nat.{ℕ, zero, suc, ◌+◌, ◌-◌, ◌*◌, ◌/◌, ◌%◌, ◌^◌, ◌≤◌, ◌<◌, min}
use native.Mathlib.Nat.{zero-min, one-mul, mul_assoc, mul_comm, add-mul, pow-suc}
use native.Mathlib.Omega.{arith}
use mathlib.Core.Bool.{Bool, true, false, cond, ◌&&◌}
use mathlib.Core.List.{◌∷◌, ◌++◌}
use mathlib.Core.Path.{◌≡◌, refl, sym, ap, ◌∙◌}
use lib.Bits.{bit_and, and_step, and_shr}
use lib.Dec.{eqb}
use lib.Pow.{high, ones_lt, pow_pos, shr-shr, shl_exact}
use borrow.Author.Tests.{eqb-true, eqb-false, eq-eqb}
use Rattle.bits.specs.Bits.{odd, low_bits, byte_bits}
use Rattle.bits.proofs.Fields.{low_bits_split}
use Rattle.fcs.proofs.Xor.{digit_of}
use Rattle.hdlc.specs.Stuffing.{stuff_from}
use Rattle.hdlc.specs.Chunks.{two_ones, five_ones}

-- ---- digits of a conjunction

least : (x y : ℕ) → x < 2 → y < 2 → eqb (min x y) 1 ≡ eqb x 1 && eqb y 1
least zero zero h k = refl
least zero (suc zero) h k = refl
least zero (suc (suc y)) h k = absurd (omega arith)
least (suc zero) zero h k = refl
least (suc zero) (suc zero) h k = refl
least (suc zero) (suc (suc y)) h k = absurd (omega arith)
least (suc (suc x)) y h k = absurd (omega arith)

least_lt : (x y : ℕ) → x < 2 → y < 2 → min x y < 2
least_lt zero y h k = rw zero-min (omega arith)
least_lt (suc zero) zero h k = omega arith
least_lt (suc zero) (suc zero) h k = omega arith
least_lt (suc zero) (suc (suc y)) h k = absurd (omega arith)
least_lt (suc (suc x)) y h k = absurd (omega arith)

odd_and : (a b : ℕ) → odd (bit_and a b) ≡ odd a && odd b
unfolding odd
odd_and a b =
    let h : a % 2 < 2 = omega arith in
    let k : b % 2 < 2 = omega arith in
    rw (digit_of (bit_and a b) (bit_and (a / 2) (b / 2)) (min (a % 2) (b % 2)) (and_step a b) (least_lt (a % 2) (b % 2) h k)) (least (a % 2) (b % 2) h k)

-- ---- where five ones in a row begin

two_half : (x : ℕ) → two_ones x / 2 ≡ two_ones (x / 2)
two_half x = and_shr x (x / 2) 1

pub five_half : (x : ℕ) → five_ones x / 2 ≡ five_ones (x / 2)
five_half x =
    let a : two_ones x / 4 / 2 ≡ two_ones x / 2 / 4 = omega arith in
    let b : x / 16 / 2 ≡ x / 2 / 16 = omega arith in
    and_shr (bit_and (two_ones x) (two_ones x / 4)) (x / 16) 1
    ∙ rw (and_shr (two_ones x) (two_ones x / 4) 1, a, b, two_half)

odd_two : (x : ℕ) → odd (two_ones x) ≡ odd x && odd (x / 2)
odd_two x = odd_and x (x / 2)

two_quarter : (x : ℕ) → two_ones x / 4 ≡ two_ones (x / 4)
two_quarter x =
    let a : x / 2 / 4 ≡ x / 4 / 2 = omega arith in
    and_shr x (x / 2) 2 ∙ rw a

pub odd_five : (x : ℕ) → odd (five_ones x) ≡ ((odd x && odd (x / 2)) && (odd (x / 4) && odd (x / 8))) && odd (x / 16)
odd_five x =
    let a : x / 4 / 2 ≡ x / 8 = omega arith in
    odd_and (bit_and (two_ones x) (two_ones x / 4)) (x / 16)
    ∙ rw (odd_and (two_ones x) (two_ones x / 4), odd_two x, two_quarter x, odd_two (x / 4), a)

-- ---- a number by its lowest bit

pub digit : (n : ℕ) (t : Bool) → odd n ≡ t → n % 2 ≡ cond t 1 0
unfolding odd
digit n true e = eqb-true (n % 2) 1 e
digit n false e =
    let other : n % 2 ≡ 1 → ⊥ = eqb-false (n % 2) 1 e in
    omega arith

pub odd_is : (n : ℕ) → n % 2 ≡ 1 → odd n ≡ true
unfolding odd
odd_is n e = eq-eqb (n % 2) 1 e

pub by_bit : (P : Bool → Type 0) (w : ℕ) → (odd w ≡ false → P false) → (odd w ≡ true → P true) → P (odd w)
by_bit P w f t = go (odd w) refl
  where
    go : (b : Bool) → odd w ≡ b → P (odd w)
    go false e = rw e (f e)
    go true e = rw e (t e)

-- halved, and then by a power of two
pub halved : (x k : ℕ) → x / 2 / 2 ^ k ≡ x / 2 ^ suc k
halved x k =
    let a : 1 + k ≡ suc k = omega arith in
    shr-shr x 1 k ∙ ap (λ (i : ℕ). x / 2 ^ i) a

-- ---- a word behind ones

abbrev pub behind_ones : ℕ → ℕ → ℕ
behind_ones o w = w * 2 ^ o + (2 ^ o - 1)

pub above : (o w : ℕ) → behind_ones o w / 2 ^ o ≡ w
above o w = high w o (ones_lt o)

pub half_above : (o w : ℕ) → behind_ones o w / 2 ^ suc o ≡ w / 2
half_above o w =
    let a : suc o ≡ o + 1 = omega arith in
    ap (λ (k : ℕ). behind_ones o w / 2 ^ k) a ∙ sym (shr-shr (behind_ones o w) o 1) ∙ ap (λ (n : ℕ). n / 2) (above o w)

-- one more one before it
pub one_more : (o w : ℕ) → odd w ≡ true → behind_ones o w ≡ behind_ones (suc o) (w / 2)
one_more o w e =
    let p : ℕ = 2 ^ o in
    let d : w ≡ w / 2 * 2 + 1 = omega (arith, digit w true e) in
    let a : w * p ≡ (w / 2 * 2 + 1) * p = ap (λ (n : ℕ). n * p) d in
    let b : (w / 2 * 2 + 1) * p ≡ w / 2 * 2 * p + 1 * p = add-mul _ _ _ in
    let c : w / 2 * 2 * p ≡ w / 2 * (2 * p) = mul_assoc _ _ _ in
    let q : 2 * p ≡ p * 2 = mul_comm _ _ in
    let f : w / 2 * (2 * p) ≡ w / 2 * (p * 2) = ap (λ (n : ℕ). w / 2 * n) q in
    let pos : 0 < p = pow_pos o in
    rw pow-suc (omega arith)

-- none before it
pub none_before : (w : ℕ) → behind_ones 0 w ≡ w
none_before w = omega arith

-- the fifth one
pub fifth_here : (w : ℕ) → odd w ≡ true → odd (five_ones (behind_ones 4 w)) ≡ true
fifth_here w e =
    let x : ℕ = behind_ones 4 w in
    let d = digit w true e in
    odd_five x ∙ rw (odd_is x (omega arith), odd_is (x / 2) (omega arith), odd_is (x / 4) (omega arith), odd_is (x / 8) (omega arith), odd_is (x / 16) (ap (λ (n : ℕ). n % 2) (above 4 w) ∙ d))

-- ---- no five ones

-- none from bit k on
none_from : (k x : ℕ) → five_ones x ≡ 0 → five_ones (x / 2 ^ k) ≡ 0
none_from zero x e =
    let a : x / 2 ^ 0 ≡ x = omega arith in
    ap five_ones a ∙ e
none_from (suc k) x e =
    let half : five_ones (x / 2) ≡ 0 = sym (five_half x) ∙ ap (λ (n : ℕ). n / 2) e in
    ap five_ones (sym (halved x k)) ∙ none_from k (x / 2) half

-- none behind a 0, none behind one more 1, and the next one is not the fifth
behind-zero : (o w : ℕ) → five_ones (behind_ones o w) ≡ 0 → five_ones (behind_ones 0 (w / 2)) ≡ 0
behind-zero o w e = ap five_ones (none_before (w / 2) ∙ sym (half_above o w)) ∙ none_from (suc o) (behind_ones o w) e

behind_one : (f w : ℕ) → suc f ≤ 4 → odd w ≡ true → five_ones (behind_ones (4 - suc f) w) ≡ 0 → five_ones (behind_ones (4 - f) (w / 2)) ≡ 0
behind_one f w h b e =
    let a : 4 - f ≡ suc (4 - suc f) = omega arith in
    ap (λ (o : ℕ). five_ones (behind_ones o (w / 2))) a ∙ ap five_ones (sym (one_more (4 - suc f) w b)) ∙ e

no_fifth : (w : ℕ) → odd w ≡ true → five_ones (behind_ones 4 w) ≡ 0 → ⊥
no_fifth w b e =
    let a : five_ones (behind_ones 4 w) % 2 ≡ 1 = digit _ true (fifth_here w b) in
    omega arith

-- the lowest bits of a number, where f more ones may come: stuffing puts no 0 into them
no_zero : (n f w : ℕ) → f ≤ 4 → five_ones (behind_ones (4 - f) w) ≡ 0 → stuff_from (low_bits n w) f ≡ low_bits n w
unfolding stuff_from low_bits
no_zero zero f w h e = refl
no_zero (suc n) zero w h e =
    by_bit (λ t. stuff_from (t ∷ low_bits n (w / 2)) 0 ≡ t ∷ low_bits n (w / 2)) w
    (λ _. ap (◌∷◌ false) (no_zero n 4 (w / 2) (omega arith) (behind-zero 4 w e)))
    (λ b. absurd (no_fifth w b e))
no_zero (suc n) (suc f) w h e =
    by_bit (λ t. stuff_from (t ∷ low_bits n (w / 2)) (suc f) ≡ t ∷ low_bits n (w / 2)) w
    (λ _. ap (◌∷◌ false) (no_zero n 4 (w / 2) (omega arith) (behind-zero (4 - suc f) w e)))
    (λ b. ap (◌∷◌ true) (no_zero n f (w / 2) (omega arith) (behind_one f w h b e)))

-- ---- two bytes

pub two_bytes_lem : (low high : ℕ) → low < 256 → low_bits 16 (low + 256 * high) ≡ byte_bits low ++ byte_bits high
unfolding byte_bits
two_bytes_lem low high h =
    let a : low + 256 * high ≡ low + high * 2 ^ 8 = omega arith in
    ap (low_bits 16) a ∙ low_bits_split 8 8 low high h

-- a number with k ones below it, as the code makes it
shifted : (n k : ℕ) → n + 1 < 2 ^ 17 → k ≤ 15 → (n + 1) * 2 ^ k % 2 ^ 32 ≡ n * 2 ^ k + 2 ^ k
shifted n k h l =
    shl_exact 17 k 32 h (omega arith) ∙ add-mul n 1 (2 ^ k) ∙ ap (λ (m : ℕ). n * 2 ^ k + m) (one-mul (2 ^ k))

pub shifted_some : (n k : ℕ) → n + 1 < 2 ^ 17 → k ≤ 15 → 1 ≤ (n + 1) * 2 ^ k % 2 ^ 32
shifted_some n k h l = rw (shifted n k h l) (omega (arith, pow_pos k))

-- without five ones the bytes get no 0
pub two_plain : (f low high : ℕ) → f ≤ 4 → low < 256 → high < 256 → five_ones ((low + 256 * high + 1) * 2 ^ (4 - f) % 2 ^ 32 - 1) ≡ 0 →
    stuff_from (byte_bits low ++ byte_bits high) f ≡ byte_bits low ++ byte_bits high
two_plain f low high few h l e =
    let n : ℕ = low + 256 * high in
    let p : 1 ≤ 2 ^ (4 - f) = pow_pos (4 - f) in
    let a : n * 2 ^ (4 - f) + 2 ^ (4 - f) - 1 ≡ behind_ones (4 - f) n = omega arith in
    let b = shifted n (4 - f) (omega arith) (omega arith) in
    rw (two_bytes_lem low high h) at (no_zero 16 f n few (ap five_ones (sym a ∙ ap (λ (m : ℕ). m - 1) (sym b)) ∙ e))
