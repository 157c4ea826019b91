-- `receiver_layout::put_slots` meets its contract: the slots are written one behind the other.
use mathlib.Core.List.{[]}
use borrow.Author.Rules.{rules}
use Rattle.layout.specs.Layout.{low_bytes}
use Rattle.layout.proofs.Parts.{four_places}
use Rattle.receiver_layout.specs.ReceiverBytes.{slot_bytes, slots_bytes}
use Rattle.receiver_layout.proofs.put_slots.Goals as goal

pub returns : goal.returns
unfolding slot_bytes slots_bytes low_bytes
returns c =
    rw (c.copy_at.ensures, c.as_flattened.ensures.value, four_places c.map-parts.result [] c.map-parts.ensures.items.long) (search rules)
