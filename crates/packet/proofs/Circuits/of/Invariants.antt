-- `packet::Circuits::of` meets its contract. The loop's invariant: the first i circuits are stored. Assumes nothing.
use Rattle.packet.specs.Circuits.{circuits_of}
use Rattle.packet.proofs.CircuitLists.{Stored}
use Rattle.packet.proofs.Circuits.of.Given as goal

abbrev pub invariant-loop-i : goal.invariant-loop-i
invariant-loop-i l = Stored (circuits_of l.bytes) l.list l.i
