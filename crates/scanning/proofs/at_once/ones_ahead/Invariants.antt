-- `scanning::at_once::ones_ahead` meets its contract. The loop's invariant: what was read so far was ones.
use Prim.Native.Nat.{◌-◌}
use Rattle.bits.specs.Bits.{bits_of}
use Rattle.scanning.specs.Ahead.{ReadAhead}
use Rattle.framing.specs.Machine.{fresh}
use Rattle.scanning.proofs.at_once.ones_ahead.Given as goal

abbrev pub invariant-loop-word : goal.invariant-loop-word
invariant-loop-word l = ReadAhead fresh fresh (bits_of l.stretch.bytes.now) l.stretch.from l.at l.stretch.to

abbrev pub decreases-loop-word : goal.decreases-loop-word
decreases-loop-word l = l.stretch.to - l.at
