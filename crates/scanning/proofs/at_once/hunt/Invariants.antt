-- `scanning::at_once::hunt` meets its contract. The loop's invariant: what was read so far left the framing behind so many ones.
use Prim.Native.Nat.{◌-◌, ◌≤◌}
use Rattle.bits.specs.Bits.{bits_of}
use Rattle.scanning.specs.Ahead.{outside, ReadAhead}
use Rattle.scanning.proofs.at_once.hunt.Given as goal

abbrev pub invariant-loop-ones : goal.invariant-loop-ones
invariant-loop-ones l =
    (l.ones ≤ 5) × ReadAhead (outside l.behind) (outside l.ones) (bits_of l.stretch.bytes.now) l.stretch.from l.at l.stretch.to

abbrev pub decreases-loop-ones : goal.decreases-loop-ones
decreases-loop-ones l = l.stretch.to - l.at
