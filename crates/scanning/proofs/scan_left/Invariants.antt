-- `scanning::scan_left` meets its contract. The loop's invariant: scanning what is left from here equals scanning all from the start, and bits leave the framing.
use Prim.Native.Nat.{◌-◌, ◌≤◌}
use mathlib.Core.Path.{◌≡◌}
use lib.Seq.{slice}
use Rattle.bits.specs.Bits.{bits_of}
use Rattle.framing.specs.Heads.{framing_of}
use Rattle.framing.specs.Range.{LeftBy}
use Rattle.framing.specs.Scanning.{scan}
use Rattle.scanning.specs.Stretch.{bits_in}
use Rattle.scanning.proofs.scan_left.Given as goal

abbrev pub invariant-loop-at : goal.invariant-loop-at
invariant-loop-at l =
    (l.at ≤ l.stretch.to)
    × (scan (framing_of l.head l.bits) l.at (slice l.at l.stretch.to (bits_of l.stretch.bytes.now)) ≡ scan l.fn.framing l.stretch.from (bits_in l.stretch))
    × LeftBy (framing_of l.head l.bits)

abbrev pub decreases-loop-at : goal.decreases-loop-at
decreases-loop-at l = l.stretch.to - l.at
