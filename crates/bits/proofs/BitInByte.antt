-- One bit of a number, of a byte and of a buffer: reading it by a shift, and setting it by taking its old value away and
-- adding the new one.
use mathlib.Core.Path.{◌≡◌, refl, sym, ap, ◌∙◌}
use Prim.Native.Nat.{ℕ, zero, suc, ◌+◌, ◌-◌, ◌*◌, ◌/◌, ◌%◌, ◌^◌, ◌≤◌, ◌<◌}
use native.Mathlib.Nat.{le_trans, zero-add, add_assoc, one-mul, div-one, pow-suc, mul_assoc, mul-le-mul_right, div-mul-le_self}
use native.Mathlib.Omega.{arith}
use mathlib.Core.Bool.{Bool, true, false}
use mathlib.Core.List.{List, [], ◌∷◌, ◌++◌}
use lib.ListN.{length, get_or, set, get_or-append}
use lib.Seq.{get_or-append-add, set-append_left}
use lib.Pow.{pow-add, shr-shr, shl_exact}
use lib.Bits.{bit_and, and_high}
use mir.Val.{bool_byte}
use Rattle.bits.specs.Bits.{odd, low_bits, byte_bits, bits_of, bit_value}
use Rattle.bits.proofs.Lists.{set_append_add}
use Rattle.bits.proofs.Bits.{length-byte_bits, eight_suc, bit_value-odd, bit_value_lt, odd_double, half_double}

-- the number with d in place of its digit k
with_digit : ℕ → ℕ → ℕ → ℕ
with_digit zero n d = d + 2 * (n / 2)
with_digit (suc k) n d = bit_value (odd n) + 2 * with_digit k (n / 2) d

-- digit k + 1 of a number is digit k of its half
shr_suc : (k n : ℕ) → n / 2 ^ suc k ≡ n / 2 / 2 ^ k
shr_suc k n =
    let e : 1 + k ≡ suc k = omega arith in
    sym (shr-shr n 1 k ∙ rw e)

-- a bit is read by a shift
get_or-low_bits : (m k n : ℕ) → k < m → get_or (low_bits m n) k false ≡ odd (n / 2 ^ k)
unfolding low_bits
get_or-low_bits zero k n h = absurd (omega arith)
get_or-low_bits (suc m) zero n h = rw div-one
get_or-low_bits (suc m) (suc k) n h = rw shr_suc (get_or-low_bits m k (n / 2) (omega arith))

-- a digit that is set is the bit that is set
low_bits_with_digit : (m k n : ℕ) (x : Bool) → low_bits m (with_digit k n (bit_value x)) ≡ set (low_bits m n) k x
unfolding low_bits with_digit
low_bits_with_digit zero k n x = refl
low_bits_with_digit (suc m) zero n x = rw (odd_double, half_double)
low_bits_with_digit (suc m) (suc k) n x = rw (odd_double, half_double) (ap (λ (r : List Bool). odd n ∷ r) (low_bits_with_digit m k (n / 2) x))

-- a digit's part of a number is at most the number
digit_le : (k n : ℕ) → n / 2 ^ k % 2 * 2 ^ k ≤ n
digit_le k n =
    let h : n / 2 ^ k % 2 ≤ n / 2 ^ k = omega arith in
    le_trans (mul-le-mul_right (2 ^ k) h) (div-mul-le_self n (2 ^ k))

-- the old digit's part is taken away and the new digit's part added
with_digit_sub_add : (k n d : ℕ) → n - n / 2 ^ k % 2 * 2 ^ k + d * 2 ^ k ≡ with_digit k n d
unfolding with_digit
with_digit_sub_add zero n d = omega arith
with_digit_sub_add (suc k) n d =
    let le : n / 2 / 2 ^ k % 2 * 2 ^ k ≤ n / 2 = digit_le k (n / 2) in
    let ih : n / 2 - n / 2 / 2 ^ k % 2 * 2 ^ k + d * 2 ^ k ≡ with_digit k (n / 2) d = with_digit_sub_add k (n / 2) d in
    let o : bit_value (odd n) ≡ n % 2 = bit_value-odd n in
    rw shr_suc (simp (pow-suc, ← mul_assoc) (omega arith))

-- a number of j digits keeps within them
with_digit_lt : (j k n d : ℕ) → k < j → n < 2 ^ j → d < 2 → with_digit k n d < 2 ^ j
unfolding with_digit
with_digit_lt zero k n d h l e = absurd (omega arith)
with_digit_lt (suc j) zero n d h l e =
    let l' : n < 2 ^ j * 2 = rw pow-suc at l in
    rw pow-suc (omega arith)
with_digit_lt (suc j) (suc k) n d h l e =
    let l' : n < 2 ^ j * 2 = rw pow-suc at l in
    let ih : with_digit k (n / 2) d < 2 ^ j = with_digit_lt j k (n / 2) d (omega arith) (omega arith) e in
    let o : bit_value (odd n) ≡ n % 2 = bit_value-odd n in
    rw pow-suc (omega arith)

-- a bit as the code's number
pub bool_byte_bit_value : (x : Bool) → bool_byte x ≡ bit_value x
unfolding bit_value
bool_byte_bit_value true = refl
bool_byte_bit_value false = refl

-- what the code makes of a byte: the old bit's part taken away and the new bit's part added, in eight bits
abbrev pub with_bit : ℕ → ℕ → Bool → ℕ
with_bit b k x = b - bit_and b (1 * 2 ^ k % 256) + bool_byte x * 2 ^ k % 256

-- the bits that a number has in common with one digit's weight are that digit's part
bit_and_pow : (k n : ℕ) → bit_and n (2 ^ k) ≡ n / 2 ^ k % 2 * 2 ^ k
bit_and_pow k n =
    let e : 2 ^ (1 + k) - 2 ^ k ≡ 2 ^ k = rw (pow-add 2 1 k) (omega arith) in
    rw e at (and_high n 1 k)

-- nothing is shifted out of the eight bits
shl_digit : (k d : ℕ) → k < 8 → d < 2 → d * 2 ^ k % 256 ≡ d * 2 ^ k
shl_digit k d h l = shl_exact 1 k 8 l (omega arith)

with_bit_with_digit : (b k : ℕ) (x : Bool) → k < 8 → with_bit b k x ≡ with_digit k b (bit_value x)
with_bit_with_digit b k x h =
    rw (shl_digit k 1 h (omega arith), one-mul, bit_and_pow, bool_byte_bit_value x, shl_digit k (bit_value x) h (bit_value_lt x))
    (with_digit_sub_add k b (bit_value x))

-- the result is a byte, and its bits are the old ones with bit k set
pub with_bit_lt : (b k : ℕ) (x : Bool) → b < 256 → k < 8 → with_bit b k x < 256
with_bit_lt b k x l h = rw (with_bit_with_digit b k x h) (with_digit_lt 8 k b (bit_value x) h l (bit_value_lt x))

pub byte_bits-with_bit : (b k : ℕ) (x : Bool) → k < 8 → byte_bits (with_bit b k x) ≡ set (byte_bits b) k x
unfolding byte_bits
byte_bits-with_bit b k x h = rw (with_bit_with_digit b k x h) (low_bits_with_digit 8 k b x)

-- a bit of a buffer is a bit of one of its bytes
get_or-bits_of_byte : (bs : List ℕ) (i k : ℕ) → i < length bs → k < 8 → get_or (bits_of bs) (8 * i + k) false ≡ get_or (byte_bits (get_or bs i 0)) k false
unfolding bits_of
get_or-bits_of_byte [] i k h l = absurd (omega arith)
get_or-bits_of_byte (b ∷ bs) zero k h l = rw zero-add (get_or-append (byte_bits b) (bits_of bs) false k (rw length-byte_bits l))
get_or-bits_of_byte (b ∷ bs) (suc i) k h l =
    rw (eight_suc b i, add_assoc) (get_or-append-add (byte_bits b) (bits_of bs) (8 * i + k) false ∙ get_or-bits_of_byte bs i k (omega arith) l)

set-bits_of_byte : (bs : List ℕ) (i k : ℕ) (x : Bool) (b' : ℕ) → i < length bs → k < 8 → byte_bits b' ≡ set (byte_bits (get_or bs i 0)) k x
    → bits_of (set bs i b') ≡ set (bits_of bs) (8 * i + k) x
unfolding bits_of
set-bits_of_byte [] i k x b' h l e = refl
set-bits_of_byte (b ∷ bs) zero k x b' h l e =
    rw (zero-add, e, set-append_left (byte_bits b) (bits_of bs) k x (rw length-byte_bits l))
set-bits_of_byte (b ∷ bs) (suc i) k x b' h l e =
    rw (eight_suc b i, add_assoc, set_append_add (byte_bits b) (bits_of bs) (8 * i + k) x)
    (ap (λ (r : List Bool). byte_bits b ++ r) (set-bits_of_byte bs i k x b' (omega arith) l e))

-- a place is that of its byte and the bit's place in the byte
place : (at : ℕ) → at ≡ 8 * (at / 8) + at % 8
place at = omega arith

-- the bit that the code reads, and the buffer that it leaves
pub get_or-bits_of : (bs : List ℕ) (at : ℕ) → at < 8 * length bs → odd (get_or bs (at / 8) 0 / 2 ^ (at % 8)) ≡ get_or (bits_of bs) at false
unfolding byte_bits
get_or-bits_of bs at h =
    sym
    (ap (λ (k : ℕ). get_or (bits_of bs) k false) (place at)
    ∙ get_or-bits_of_byte bs (at / 8) (at % 8) (omega arith) (omega arith)
    ∙ get_or-low_bits 8 (at % 8) (get_or bs (at / 8) 0) (omega arith))

pub set-bits_of : (bs : List ℕ) (at : ℕ) (x : Bool) (b' : ℕ) → at < 8 * length bs → byte_bits b' ≡ set (byte_bits (get_or bs (at / 8) 0)) (at % 8) x
    → bits_of (set bs (at / 8) b') ≡ set (bits_of bs) at x
set-bits_of bs at x b' h e =
    set-bits_of_byte bs (at / 8) (at % 8) x b' (omega arith) (omega arith) e
    ∙ ap (λ (k : ℕ). set (bits_of bs) k x) (sym (place at))
