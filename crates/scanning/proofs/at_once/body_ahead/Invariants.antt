-- `scanning::at_once::body_ahead` meets its contract. The loop's invariant: what is read of the body.
use Prim.Native.Nat.{◌-◌}
use Rattle.bits.specs.Bits.{bits_of}
use Rattle.framing.specs.Heads.{framing_of}
use Rattle.scanning.proofs.WordsRead.{Reading}
use Rattle.scanning.proofs.at_once.body_ahead.Given as goal

abbrev pub invariant-loop-phase : goal.invariant-loop-phase
invariant-loop-phase l =
    Reading (framing_of l.fn.head l.fn.bits) (bits_of l.stretch.bytes.now) l.stretch.from l.at l.stretch.to l.phase l.ones l.gathered l.bits

abbrev pub decreases-loop-phase : goal.decreases-loop-phase
decreases-loop-phase l = l.stretch.to - l.at
