-- `fcs::fcs_bytes` meets its contract. The loop's invariant: the register over the bytes that are left is the register over all of
-- them from the start. Assumes nothing.
use Prim.Native.Nat.{◌*◌}
use mathlib.Core.Path.{◌≡◌}
use lib.ListN.{drop}
use Rattle.bits.specs.Bits.{bits_of}
use Rattle.fcs.specs.Fcs.{fcs_run}
use Rattle.fcs.proofs.fcs_bytes.Given as goal

abbrev pub invariant-loop-i : goal.invariant-loop-i
invariant-loop-i l = fcs_run l.r (bits_of (drop (2 * l.i) l.bytes)) ≡ fcs_run l.register (bits_of l.bytes)
