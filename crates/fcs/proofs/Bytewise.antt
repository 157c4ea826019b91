-- The register after a byte, at once. The division is linear: a byte is as if it stood in the register before eight zeros, and the register's
-- high byte is then shifted down, to which is added what eight zeros make of its low byte. That is the entry of the usual table of 256; its
-- closed form is computed at each.
use Prim.Native.Nat.{ℕ, zero, suc, ◌*◌, ◌/◌, ◌%◌, ◌^◌, ◌<◌}
use native.Mathlib.Omega.{arith}
use mathlib.Core.Bool.{Bool, true, false, xor}
use mathlib.Core.Path.{◌≡◌, refl, sym, ap, ◌∙◌}
use lib.Bits.{bit_xor, xor_shr, xor_lt, xor_zero_r, xor_shifted, shifted_half, shifted_even}
use lib.Dec.{eqb}
use lib.ListN.{replicate}
use borrow.Author.Tests.{eqb-true}
use Rattle.bits.specs.Bits.{odd, low_bits, byte_bits}
use Rattle.bits.proofs.Computed.{all_below, each_below}
use Rattle.fcs.specs.Fcs.{poly, divided, fcs_bit, fcs_run}
use Rattle.fcs.proofs.Laws.{fcs_bit_lt}
use Rattle.fcs.proofs.Xor.{xor_half, half_lt, xor_assoc, xor_swap, xor_twice, odd_xor}

poly_lt : poly < 2 ^ 16
unfolding poly
poly_lt = omega arith

divided_xor : (t : Bool) (u v : ℕ) → u < 2 ^ 16 → v < 2 ^ 16 → bit_xor (divided t u) v ≡ divided t (bit_xor u v)
unfolding divided
divided_xor true u v h k = xor_swap 16 u poly v h poly_lt k
divided_xor false u v h k = refl

xor_false : (t : Bool) → xor t false ≡ t
unfolding xor
xor_false true = refl
xor_false false = refl

half_16 : (a : ℕ) → a < 2 ^ 16 → a / 2 < 2 ^ 16
half_16 a h = omega arith

-- a bit that comes in is as if it stood in the register
bit_in : (r b : ℕ) → r < 2 ^ 16 → b < 2 ^ 16 → bit_xor (fcs_bit r (odd b)) (b / 2) ≡ fcs_bit (bit_xor r b) false
unfolding fcs_bit
bit_in r b h k =
    divided_xor (xor (odd r) (odd b)) (r / 2) (b / 2) (half_16 r h) (half_16 b k)
    ∙ rw (xor_false, odd_xor, xor_half)

-- the same of as many bits as a number has
pub bits_in : (k r b : ℕ) → r < 2 ^ 16 → b < 2 ^ 16 → b < 2 ^ k → fcs_run r (low_bits k b) ≡ fcs_run (bit_xor r b) (replicate k false)
unfolding fcs_run low_bits
bits_in zero r b h i j =
    let z : b ≡ 0 = omega arith in
    rw (z, xor_zero_r)
bits_in (suc k) r b h i j =
    bits_in k (fcs_bit r (odd b)) (b / 2) (fcs_bit_lt (odd b) h) (half_16 b i) (half_lt k b j)
    ∙ ap (λ (n : ℕ). fcs_run n (replicate k false)) (bit_in r b h i)

-- over zeros, the register of a sum is the sum of the registers
divided-sum : (s t : Bool) (u v : ℕ) → u < 2 ^ 16 → v < 2 ^ 16 → divided (xor s t) (bit_xor u v) ≡ bit_xor (divided s u) (divided t v)
unfolding divided xor
divided-sum true true u v h k = sym (xor_twice 16 u v poly h k poly_lt)
divided-sum true false u v h k = xor_swap 16 u v poly h k poly_lt
divided-sum false true u v h k = xor_assoc 16 u v poly h k poly_lt
divided-sum false false u v h k = refl

zero-sum : (u v : ℕ) → u < 2 ^ 16 → v < 2 ^ 16 → fcs_bit (bit_xor u v) false ≡ bit_xor (fcs_bit u false) (fcs_bit v false)
unfolding fcs_bit
zero-sum u v h k =
    simp (xor_false, odd_xor, xor_half) (divided-sum (odd u) (odd v) (u / 2) (v / 2) (half_16 u h) (half_16 v k))

pub zeros_sum : (k u v : ℕ) → u < 2 ^ 16 → v < 2 ^ 16 →
    fcs_run (bit_xor u v) (replicate k false) ≡ bit_xor (fcs_run u (replicate k false)) (fcs_run v (replicate k false))
unfolding fcs_run
zeros_sum zero u v h i = refl
zeros_sum (suc k) u v h i =
    ap (λ (n : ℕ). fcs_run n (replicate k false)) (zero-sum u v h i)
    ∙ zeros_sum k (fcs_bit u false) (fcs_bit v false) (fcs_bit_lt false h) (fcs_bit_lt false i)

-- a register whose low bits are 0 is shifted
pub odd_even : (n : ℕ) → n % 2 ≡ 0 → odd n ≡ false
unfolding odd
odd_even n e = rw e

zero_shift : (h k : ℕ) → fcs_bit (h * 2 ^ suc k) false ≡ h * 2 ^ k
unfolding fcs_bit divided
zero_shift h k = rw (odd_even (h * 2 ^ suc k) (shifted_even h k), xor_false) (shifted_half h k)

zeros_shift : (k h : ℕ) → fcs_run (h * 2 ^ k) (replicate k false) ≡ h
unfolding fcs_run
zeros_shift zero h = omega arith
zeros_shift (suc k) h = ap (λ (n : ℕ). fcs_run n (replicate k false)) (zero_shift h k) ∙ zeros_shift k h

-- a byte folded onto its high half
unfoldable pub folded : ℕ → ℕ
folded v = bit_xor v (v * 16) % 256

-- the table's entry for a byte: what eight zeros make of it
unfoldable pub table_entry : ℕ → ℕ
table_entry v = bit_xor (bit_xor (folded v * 256) (folded v * 8)) (folded v / 16)

entry_right : ℕ → Bool
entry_right v = eqb (fcs_run v (replicate 8 false)) (table_entry v)

entries_computed : all_below entry_right 256 ≡ true
unfolding all_below entry_right fcs_run fcs_bit divided odd xor poly folded table_entry
entries_computed = refl

entry : (v : ℕ) → v < 256 → fcs_run v (replicate 8 false) ≡ table_entry v
unfolding entry_right
entry v h = eqb-true (fcs_run v (replicate 8 false)) (table_entry v) (each_below entry_right 256 v entries_computed h)

-- a number is the sum of its high bits and its low byte, and a byte added changes no higher bit
split_xor : (n : ℕ) → bit_xor (n / 256 * 256) (n % 256) ≡ n
split_xor n = xor_shifted (n / 256) 8 (n % 256) (omega arith) ∙ omega arith

high_byte : (r b : ℕ) → b < 256 → bit_xor r b / 256 ≡ r / 256
high_byte r b h =
    let z : b / 256 ≡ 0 = omega arith in
    xor_shr r b 8 ∙ rw (z, xor_zero_r)

-- the register after a byte
pub fcs_byte_at_once : (r b : ℕ) → r < 2 ^ 16 → b < 256 →
    bit_xor (r / 256) (table_entry (bit_xor r b % 256)) ≡ fcs_run r (byte_bits b)
unfolding byte_bits
fcs_byte_at_once r b h k =
    let x : ℕ = bit_xor r b in
    let small : x < 2 ^ 16 = xor_lt 16 r b h (omega arith) in
    sym
    (bits_in 8 r b h (omega arith) k
    ∙ ap (λ (n : ℕ). fcs_run n (replicate 8 false)) (sym (split_xor x))
    ∙ zeros_sum 8 (x / 256 * 256) (x % 256) (omega arith) (omega arith)
    ∙ rw (zeros_shift 8 (x / 256), entry (x % 256) (omega arith), high_byte r b k))
