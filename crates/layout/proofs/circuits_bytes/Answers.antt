-- `layout::circuits_bytes` meets its contract.
use mathlib.Core.List.{[]}
use borrow.Author.Rules.{rules}
use Rattle.layout.specs.Layout.{circuit_bytes, circuits_bytes}
use Rattle.layout.proofs.Parts.{four_places}
use Rattle.layout.proofs.circuits_bytes.Goals as goal

pub returns : goal.returns
unfolding circuit_bytes circuits_bytes
returns c =
    rw (c.copy_from_slice.ensures.after, c.as_flattened.ensures.value, four_places c.map-list.result [] c.map-list.ensures.items.long) (search rules)
