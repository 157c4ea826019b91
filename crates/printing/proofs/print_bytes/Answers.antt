-- `printing::print_bytes` meets its contract: a byte has two hexadecimal digits.
use Rattle.std.proofs.Common.{◌≡◌, inl, inr, sym, ℕ, ◌<◌, ◌-◌, arith}
use Rattle.std.proofs.Math.Nat.{pow-le-pow_right, eq-or-lt_of_le}
use Rattle.io.specs.Digits.{IsDigitCount}
use Rattle.printing.proofs.print_bytes.Goals as goal

two_digits : (n b k : ℕ) → n ≡ b → b < 256 → IsDigitCount 16 2 n k → k ≡ 2
two_digits n b k e small (some, fits, few) =
    elim (eq-or-lt_of_le some) [
      | inl two ↦ sym two
      | inr more ↦ absurd (omega (arith, few more, pow-le-pow_right {n = 16} (omega arith) {i = 2} {j = k - 1} (omega arith)))
    ]

pub overflow_add-digits : goal.overflow_add-digits
overflow_add-digits g c =
    omega (arith, two_digits _ _ _ c.from.ensures (c.type_inv.bytes c.loop-byte.byte-index).fits c.in_ok-digits.ensures)

pub loop-byte-preserved : goal.loop-byte-preserved
loop-byte-preserved g c =
    omega (arith, two_digits _ _ _ c.from.ensures (c.type_inv.bytes c.loop-byte.byte-index).fits c.in_ok-digits.ensures)
