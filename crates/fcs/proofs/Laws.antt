-- The laws of the frame check sequence: the register is run over bits one after another, it stays below 2 ^ 16, and the two bytes of
-- an FCS hold it whole.
use Prim.Native.Nat.{ℕ, suc, ◌+◌, ◌*◌, ◌/◌, ◌%◌, ◌^◌, ◌≤◌, ◌<◌}
use native.Mathlib.Nat.{mod-add-div}
use native.Mathlib.Numerals.{add-one}
use native.Mathlib.Omega.{arith}
use mathlib.Core.Bool.{Bool, true, false, xor}
use mathlib.Core.List.{List, [], ◌∷◌, ◌++◌}
use mathlib.Core.Path.{◌≡◌, refl, sym, ◌∙◌}
use lib.Bits.{xor_lt}
use lib.ListN.{length, get_or, drop}
use lib.Seq.{drop-cons}
use Rattle.bits.specs.Bits.{odd, byte_bits, bits_of, Bytes}
use Rattle.fcs.specs.Fcs.{poly, divided, fcs_bit, fcs_run, complement, fcs_of, low_first}

-- bits in a row, and then more
pub fcs_run_append : (r : ℕ) (a b : List Bool) → fcs_run r (a ++ b) ≡ fcs_run (fcs_run r a) b
unfolding fcs_run
fcs_run_append r [] b = refl
fcs_run_append r (x ∷ a) b = fcs_run_append (fcs_bit r x) a b

-- the register keeps to 16 bits
divided_lt : (t : Bool) {r : ℕ} → r < 2 ^ 16 → divided t r < 2 ^ 16
unfolding divided poly
divided_lt true {r} h = xor_lt 16 r 0x8408 h (omega arith)
divided_lt false h = h

pub fcs_bit_lt : {r : ℕ} (b : Bool) → r < 2 ^ 16 → fcs_bit r b < 2 ^ 16
unfolding fcs_bit
fcs_bit_lt {r} b h = divided_lt (xor (odd r) b) (omega arith)

pub fcs_of_lt : (p : List ℕ) → fcs_of p < 2 ^ 16
unfolding fcs_of complement
fcs_of_lt p = omega arith

-- the two bytes of a 16-bit number are bytes, and hold it
pub low_first-Bytes : (n : ℕ) → n < 2 ^ 16 → Bytes (low_first n)
unfolding low_first Bytes
low_first-Bytes n h = (omega arith, (omega arith, tt))

pub low_first_value : (n : ℕ) → n % 256 + 256 * (n / 256) ≡ n
low_first_value n = mod-add-div n 256

-- what is left of a buffer's bytes begins with the next byte's bits
pub fcs_run-bits_of : (r : ℕ) (l : List ℕ) (i : ℕ) → i < length l
    → fcs_run r (bits_of (drop i l)) ≡ fcs_run (fcs_run r (byte_bits (get_or l i 0))) (bits_of (drop (i + 1) l))
unfolding bits_of
fcs_run-bits_of r l i h =
    rw (drop-cons l i 0, add-one) (fcs_run_append r (byte_bits (get_or l i 0)) (bits_of (drop (suc i) l)))

-- two bytes from number i on
pub fcs_run_two : (r : ℕ) (l : List ℕ) (i : ℕ) → i + 2 ≤ length l
    → fcs_run r (bits_of (drop i l)) ≡ fcs_run (fcs_run r (byte_bits (get_or l i 0) ++ byte_bits (get_or l (i + 1) 0))) (bits_of (drop (i + 2) l))
fcs_run_two r l i h =
    let two : i + 1 + 1 ≡ i + 2 = omega arith in
    fcs_run-bits_of r l i (omega arith) ∙ fcs_run-bits_of (fcs_run r (byte_bits (get_or l i 0))) l (i + 1) (omega arith)
    ∙ (λ j. fcs_run (sym (fcs_run_append r (byte_bits (get_or l i 0)) (byte_bits (get_or l (i + 1) 0))) j) (bits_of (drop (two j) l)))
