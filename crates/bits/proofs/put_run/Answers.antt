-- `bits::put_run` meets its contract. The loop's invariant: the first i bits of the run are written.
use mathlib.Core.Path.{◌∙◌}
use Rattle.bits.specs.Bits.{bits_of}
use Rattle.bits.proofs.Lists.{sets_replicate}
use Rattle.bits.proofs.put_run.Goals as goal

pub loop-i-preserved : goal.loop-i-preserved
loop-i-preserved c = c.put_bit.ensures ∙ rw c.loop-i.invariant (sets_replicate (bits_of c.args.s.now) c.args.at c.loop-i.i c.args.bit)
