-- `zero_from` meets its contract: a shift tells of the bits of the first byte, and the bytes behind it are looked at whole.
use Prim.Native.Nat.{ℕ, ◌+◌, ◌/◌, ◌%◌}
use mathlib.Core.List.{List}
use mathlib.Core.Path.{ap, ◌∙◌}
use native.Mathlib.Omega.{arith}
use borrow.Author.Rules.{rules}
use borrow.Author.Tests.{ne_eqb}
use Rattle.bits.specs.Bits.{bits_of}
use Rattle.framing.specs.Range.{all_zero}
use Rattle.framing.proofs.Turns.{length_bits_21, all_zero_some, all_zero-none, all_zero_end, drop_in_byte, take_all}
use Rattle.framing.proofs.zero_from.Goals as goal

pub returns-then-from-ge168 : goal.returns-then-from-ge168
returns-then-from-ge168 c =
    let bytes = c.args.bytes.now in
    all_zero_end (bits_of bytes) c.args.from (omega (arith, length_bits_21 bytes (search rules)))

pub returns-then-bytes-i-eq0 : goal.returns-then-bytes-i-eq0
returns-then-bytes-i-eq0 c =
    let bytes = c.args.bytes.now in
    let from = c.args.from in
    c.zero_bytes.ensures
    ∙ ap (λ (x : List ℕ). all_zero (bits_of x)) (take_all 21 (from / 8 + 1) bytes (search rules))
    ∙ all_zero-none bytes (from / 8) (from % 8) (omega arith) (search rules) (omega arith) c.if-bytes-i-eq0.true
    ∙ ap all_zero (drop_in_byte bytes from)

pub returns-else-bytes-i-eq0 : goal.returns-else-bytes-i-eq0
returns-else-bytes-i-eq0 c =
    let bytes = c.args.bytes.now in
    let from = c.args.from in
    ne_eqb _ 0 c.if-bytes-i-eq0.false
    ∙ all_zero_some bytes (from / 8) (from % 8) (omega arith) (search rules) (omega arith) c.if-bytes-i-eq0.false
    ∙ ap all_zero (drop_in_byte bytes from)
