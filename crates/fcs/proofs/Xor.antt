-- Laws of exclusive or: its lowest bit and its half, its order and its brackets, in numbers of k bits.
use Prim.Native.Nat.{ℕ, zero, suc, ◌+◌, ◌*◌, ◌/◌, ◌%◌, ◌^◌, ◌<◌}
use native.Mathlib.Nat.{pow-suc}
use native.Mathlib.Omega.{arith}
use mathlib.Core.Bool.{xor}
use mathlib.Core.Path.{◌≡◌, refl, sym, ap, ◌∙◌}
use lib.Bits.{bit_xor, differ, xor_step, xor_shr, xor_lt, xor_comm, xor_self, xor_zero_r}
use lib.Dec.{eqb}
use Rattle.bits.specs.Bits.{odd}

-- digits: 0 and 1
differ_lt : (x y : ℕ) → x < 2 → y < 2 → differ x y < 2
differ_lt zero y h k = k
differ_lt (suc zero) zero h k = h
differ_lt (suc zero) (suc zero) h k = omega arith
differ_lt (suc zero) (suc (suc y)) h k = absurd (omega arith)
differ_lt (suc (suc x)) y h k = absurd (omega arith)

differ_assoc : (x y z : ℕ) → x < 2 → y < 2 → z < 2 → differ (differ x y) z ≡ differ x (differ y z)
differ_assoc zero y z h k l = refl
differ_assoc (suc zero) zero z h k l = refl
differ_assoc (suc zero) (suc zero) zero h k l = refl
differ_assoc (suc zero) (suc zero) (suc zero) h k l = refl
differ_assoc (suc zero) (suc zero) (suc (suc z)) h k l = absurd (omega arith)
differ_assoc (suc zero) (suc (suc y)) z h k l = absurd (omega arith)
differ_assoc (suc (suc x)) y z h k l = absurd (omega arith)

pub xor_half : (a b : ℕ) → bit_xor a b / 2 ≡ bit_xor (a / 2) (b / 2)
xor_half a b = xor_shr a b 1

pub digit_of : (n q d : ℕ) → n ≡ q * 2 + d → d < 2 → n % 2 ≡ d
digit_of n q d e h = omega arith

xor_digit : (a b : ℕ) → bit_xor a b % 2 ≡ differ (a % 2) (b % 2)
xor_digit a b =
    digit_of (bit_xor a b) (bit_xor (a / 2) (b / 2)) (differ (a % 2) (b % 2)) (xor_step a b)
    (differ_lt (a % 2) (b % 2) (omega arith) (omega arith))

join : {r s c d : ℕ} → r ≡ s → c ≡ d → r * 2 + c ≡ s * 2 + d
join p q = rw (p, q)

pub half_lt : (k a : ℕ) → a < 2 ^ suc k → a / 2 < 2 ^ k
half_lt k a h =
    let h' : a < 2 ^ k * 2 = rw pow-suc at h in
    omega arith

pub xor_assoc : (k a b c : ℕ) → a < 2 ^ k → b < 2 ^ k → c < 2 ^ k → bit_xor (bit_xor a b) c ≡ bit_xor a (bit_xor b c)
xor_assoc zero a b c h i j =
    let x : a ≡ 0 = omega arith in
    let y : b ≡ 0 = omega arith in
    let z : c ≡ 0 = omega arith in
    rw (x, y, z)
xor_assoc (suc k) a b c h i j =
    xor_step (bit_xor a b) c
    ∙ join
    (ap (λ (n : ℕ). bit_xor n (c / 2)) (xor_half a b) ∙ xor_assoc k (a / 2) (b / 2) (c / 2) (half_lt k a h) (half_lt k b i) (half_lt k c j)
    ∙ ap (bit_xor (a / 2)) (sym (xor_half b c)))
    (ap (λ (n : ℕ). differ n (c % 2)) (xor_digit a b) ∙ differ_assoc (a % 2) (b % 2) (c % 2) (omega arith) (omega arith) (omega arith)
    ∙ ap (differ (a % 2)) (sym (xor_digit b c)))
    ∙ sym (xor_step a (bit_xor b c))

-- the second and the third of three change places
pub xor_swap : (k a b c : ℕ) → a < 2 ^ k → b < 2 ^ k → c < 2 ^ k → bit_xor (bit_xor a b) c ≡ bit_xor (bit_xor a c) b
xor_swap k a b c h i j = xor_assoc k a b c h i j ∙ ap (bit_xor a) (xor_comm b c) ∙ sym (xor_assoc k a c b h j i)

-- what is taken twice is not taken
pub xor_twice : (k a b c : ℕ) → a < 2 ^ k → b < 2 ^ k → c < 2 ^ k → bit_xor (bit_xor a c) (bit_xor b c) ≡ bit_xor a b
xor_twice k a b c h i j =
    sym (xor_assoc k (bit_xor a c) b c (xor_lt k a c h j) i j) ∙ ap (λ (n : ℕ). bit_xor n c) (xor_swap k a c b h j i)
    ∙ xor_assoc k (bit_xor a b) c c (xor_lt k a b h i) j j ∙ ap (bit_xor (bit_xor a b)) (xor_self c) ∙ xor_zero_r (bit_xor a b)

-- the lowest bits
digits-odd : (x y : ℕ) → x < 2 → y < 2 → eqb (differ x y) 1 ≡ xor (eqb x 1) (eqb y 1)
unfolding xor
digits-odd zero zero h k = refl
digits-odd zero (suc zero) h k = refl
digits-odd zero (suc (suc y)) h k = absurd (omega arith)
digits-odd (suc zero) zero h k = refl
digits-odd (suc zero) (suc zero) h k = refl
digits-odd (suc zero) (suc (suc y)) h k = absurd (omega arith)
digits-odd (suc (suc x)) y h k = absurd (omega arith)

pub odd_xor : (a b : ℕ) → odd (bit_xor a b) ≡ xor (odd a) (odd b)
unfolding odd
odd_xor a b = rw xor_digit (digits-odd (a % 2) (b % 2) (omega arith) (omega arith))
