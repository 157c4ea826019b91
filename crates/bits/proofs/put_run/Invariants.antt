-- `bits::put_run` meets its contract. The loop's invariant: the first i bits of the run are written.
use mathlib.Core.Path.{◌≡◌}
use lib.ListN.{replicate}
use lib.Seq.{sets}
use Rattle.bits.specs.Bits.{bits_of}
use Rattle.bits.proofs.put_run.Given as goal

abbrev pub invariant-loop-i : goal.invariant-loop-i
invariant-loop-i l = bits_of l.s ≡ sets (bits_of l.initial.s) l.at (replicate l.i l.bit)
