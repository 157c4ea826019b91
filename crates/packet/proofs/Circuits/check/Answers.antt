-- `packet::Circuits::check` meets its contract. Assumes nothing.
use Rattle.packet.proofs.CircuitLists.{circuits_of-listed}
use Rattle.packet.proofs.Circuits.check.Goals as goal

pub returns : goal.returns
returns c =
    let b = c.bytes-bytes in
    let n = c.bytes_listed-n in
    rw (circuits_of-listed c.args.self b.result n.result c.well_formed.0.1.1.1.0.1.0.1 b.ensures n.ensures)
    at c.check.ensures
