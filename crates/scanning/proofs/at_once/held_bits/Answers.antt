-- `scanning::at_once::held_bits` meets its contract.
use Prim.Native.Nat.{◌+◌, ◌-◌, ◌*◌, ◌%◌, ◌^◌, ◌<◌}
use native.Mathlib.Omega.{arith}
use mathlib.Core.Path.{◌≡◌, ap, ◌∙◌}
use lib.Pow.{pow_pos, shl_exact, shl_lt, ones_lt}
use Rattle.bits.specs.Bits.{low_bits}
use Rattle.scanning.proofs.WordsRead.{held_number}
use Rattle.scanning.proofs.at_once.held_bits.Goals as goal

pub overflow_sub-result : goal.overflow_sub-result
overflow_sub-result c =
    let one : 1 * 2 ^ c.args.ones % 2 ^ 64 ≡ 2 ^ c.args.ones =
    shl_exact 1 c.args.ones 64 (omega arith) (omega arith) ∙ omega arith in
    omega (arith, one, pow_pos c.args.ones)

pub returns : goal.returns
returns c =
    let one : 1 * 2 ^ c.args.ones % 2 ^ 64 ≡ 2 ^ c.args.ones =
    shl_exact 1 c.args.ones 64 (omega arith) (omega arith) ∙ omega arith in
    let all : (1 * 2 ^ c.args.ones % 2 ^ 64 - 1) * 2 ^ c.args.zeros % 2 ^ 64 ≡ (2 ^ c.args.ones - 1) * 2 ^ c.args.zeros =
    ap (λ n. (n - 1) * 2 ^ c.args.zeros % 2 ^ 64) one ∙ shl_exact c.args.ones c.args.zeros 64 (ones_lt c.args.ones) (omega arith) in
    let z = c.args.zeros in
    let o = c.args.ones in
    let most : (2 ^ o - 1) * 2 ^ z < 2 ^ (o + z) = shl_lt o z (ones_lt o) in
    let e : o + z ≡ z + o = omega arith in
    (ap (low_bits (z + o)) all ∙ held_number z o, rw (all, ← e) most)
