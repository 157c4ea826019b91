-- `words::Word::end_ones` meets its contract.
use Prim.Native.Nat.{◌+◌, ◌-◌}
use native.Mathlib.Omega.{arith}
use mathlib.Core.Path.{◌≡◌}
use lib.Count.{count_leading_zeros}
use Rattle.words.proofs.Runs.{leading_more}
use Rattle.words.proofs.Word.end_ones.Goals as goal

pub overflow_sub-result-2 : goal.overflow_sub-result-2
overflow_sub-result-2 c =
    let more : count_leading_zeros 64 (0xff_ffff_ffff_ffff - c.args.self.bits) ≡ 8 + count_leading_zeros 56 (0xff_ffff_ffff_ffff - c.args.self.bits) =
    leading_more 8 56 (0xff_ffff_ffff_ffff - c.args.self.bits) (omega arith) in
    omega (arith, more)

pub returns : goal.returns
returns c =
    let more : count_leading_zeros 64 (0xff_ffff_ffff_ffff - c.args.self.bits) ≡ 8 + count_leading_zeros 56 (0xff_ffff_ffff_ffff - c.args.self.bits) =
    leading_more 8 56 (0xff_ffff_ffff_ffff - c.args.self.bits) (omega arith) in
    omega (arith, more)
