-- `packet::circuit_lists::circuit_at` meets its contract. Assumes nothing.
use Rattle.packet.proofs.CircuitLists.{circuits_of_at}
use Rattle.packet.proofs.circuit_lists.circuit_at.Goals as goal

pub returns : goal.returns
returns c =
    circuits_of_at c.args.list.now c.args.i c.requires
