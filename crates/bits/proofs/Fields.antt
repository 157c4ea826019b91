-- A number's bits in pieces.
use mathlib.Core.Path.{◌≡◌, ap, ◌∙◌}
use Prim.Native.Nat.{ℕ, zero, suc, ◌+◌, ◌-◌, ◌*◌, ◌/◌, ◌%◌, ◌^◌, ◌≤◌, ◌<◌}
use native.Mathlib.Nat.{zero-add, suc-add, add_comm, mul_assoc, suc-mul, mul-le-mul_right, pow-suc}
use native.Mathlib.Omega.{arith}
use mathlib.Core.Bool.{Bool, false}
use mathlib.Core.List.{List, ◌∷◌, ◌++◌, append-nil}
use lib.ListN.{length, replicate}
use lib.Pow.{pow-add}
use lib.Seq.{take-length}
use Rattle.bits.specs.Bits.{odd, low_bits, byte_bits, number_of}
use Rattle.bits.proofs.Bits.{low_bits-number_of, number_of_lt}

-- the lowest bit and the half of x + y * 2 ^ (a + 1)
shift_suc : (y a : ℕ) → y * 2 ^ suc a ≡ y * 2 ^ a * 2
shift_suc y a = rw (pow-suc, ← mul_assoc)

odd_shifted : (x y a : ℕ) → odd (x + y * 2 ^ suc a) ≡ odd x
unfolding odd
odd_shifted x y a =
    let e : (x + y * 2 ^ a * 2) % 2 ≡ x % 2 = omega arith in
    rw (shift_suc, e)

half_shifted : (x y a : ℕ) → (x + y * 2 ^ suc a) / 2 ≡ x / 2 + y * 2 ^ a
half_shifted x y a = rw shift_suc (omega arith)

-- a low part of a bits, and what is above it
pub low_bits_split : (a b x y : ℕ) → x < 2 ^ a → low_bits (a + b) (x + y * 2 ^ a) ≡ low_bits a x ++ low_bits b y
unfolding low_bits
low_bits_split zero b x y h =
    let z : x + y * 1 ≡ y = omega arith in
    rw (zero-add, z)
low_bits_split (suc a) b x y h =
    let h' : x < 2 ^ a * 2 = rw pow-suc at h in
    rw (suc-add, odd_shifted, half_shifted) (ap (λ (r : List Bool). odd x ∷ r) (low_bits_split a b (x / 2) y (omega arith)))

-- both parts make a number of a + b bits
pub split_lt : (a b x y : ℕ) → x < 2 ^ a → y < 2 ^ b → x + y * 2 ^ a < 2 ^ (a + b)
split_lt a b x y h k =
    let e : 2 ^ (a + b) ≡ 2 ^ b * 2 ^ a = ap (λ (n : ℕ). 2 ^ n) (add_comm a b) ∙ pow-add 2 b a in
    let l : suc y * 2 ^ a ≤ 2 ^ b * 2 ^ a = mul-le-mul_right (2 ^ a) k in
    rw e (omega (arith, suc-mul y (2 ^ a)))

-- the lowest byte, and what is above it
pub low_bits_byte : (m x : ℕ) → low_bits (8 + m) x ≡ byte_bits (x % 256) ++ low_bits m (x / 256)
unfolding byte_bits
low_bits_byte m x =
    let e : x ≡ x % 256 + x / 256 * 2 ^ 8 = omega arith in
    ap (low_bits (8 + m)) e ∙ low_bits_split 8 m (x % 256) (x / 256) (omega arith)

-- bits are what their length and their number say
pub number_of-fits : (bs : List Bool) → number_of bs < 2 ^ length bs
number_of-fits bs = rw take-length at (number_of_lt (length bs) bs)

pub low_bits-of : (bs : List Bool) → low_bits (length bs) (number_of bs) ≡ bs
low_bits-of bs =
    let none : length bs - length bs ≡ 0 = omega arith in
    let r : low_bits (length bs) (number_of bs) ≡ bs ++ replicate (length bs - length bs) false = rw (take-length bs) at (low_bits-number_of (length bs) bs) in
    r ∙ rw (none, append-nil)
