-- `packet::Circuits::bytes` meets its contract. Assumes nothing.
use Rattle.packet.specs.Circuits.{circuits_of, no_circuit}
use Rattle.packet.proofs.CircuitLists.{four_circuits}
use Rattle.packet.proofs.Circuits.bytes.Goals as goal

pub returns : goal.returns
unfolding circuits_of no_circuit
returns c =
    four_circuits c.args.self.list c.well_formed.0.1.1.1.0.1.0.1
