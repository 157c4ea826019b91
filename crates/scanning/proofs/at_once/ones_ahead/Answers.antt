-- `scanning::at_once::ones_ahead` meets its contract. The loop's invariant: what was read so far was ones.
use native.Mathlib.Omega.{arith}
use Rattle.bits.specs.Bits.{bits_of}
use Rattle.bits.proofs.Bits.{length-bits_of}
use Rattle.scanning.proofs.WordsRead.{ahead_start, ahead_ones}
use Rattle.scanning.proofs.at_once.ones_ahead.Goals as goal

pub loop-word-init : goal.loop-word-init
loop-word-init c = ahead_start _ _ _ c.args.stretch.in_order

pub loop-word-preserved : goal.loop-word-preserved
loop-word-preserved c =
    let s = c.args.stretch in
    let l = c.loop-word in
    ahead_ones (bits_of s.bytes.now) s.from l.at s.to _ l.invariant (omega arith) (rw length-bits_of s.lent) c.at-word.ensures
    c.if-word-ne-ONES.false
