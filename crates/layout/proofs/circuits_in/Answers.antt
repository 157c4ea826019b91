-- `layout::circuits_in` meets its contract.
use borrow.Author.Rules.{rules}
use Rattle.packet.specs.Circuits.{no_circuit}
use Rattle.layout.specs.Layout.{byte_at, circuits_in}
use Rattle.layout.proofs.Parts.{four_places}
use Rattle.layout.proofs.circuits_in.Goals as goal

pub returns : goal.returns
unfolding byte_at circuits_in
returns c = rw (four_places c.from_fn.result no_circuit c.from_fn.ensures.items.long) (search rules)
