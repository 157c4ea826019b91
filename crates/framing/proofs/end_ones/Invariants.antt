-- `end_ones` meets its contract. The loop's invariant: going on from here with the ones counted so far gives what counting from
-- the start gives.
use Prim.Native.Nat.{◌≤◌}
use mathlib.Core.Path.{◌≡◌}
use lib.ListN.{take, drop}
use Rattle.bits.specs.Bits.{bits_of}
use Rattle.hdlc.specs.Stuffing.{end_ones}
use Rattle.framing.proofs.end_ones.Given as goal

abbrev pub invariant-loop-at : goal.invariant-loop-at
invariant-loop-at l =
    (l.ones ≤ l.at) × (end_ones (drop l.at (take l.n (bits_of l.bytes))) l.ones ≡ end_ones (take l.n (bits_of l.bytes)) 0)
