-- `receiver_calls::hear_circuit` meets its contract.
use Rattle.std.proofs.Common.{ap, ◌∙◌}
use Rattle.packet.specs.Messages.{longest_long}
use Rattle.packet.specs.Stores.{stores, longest_at}
use Rattle.notices.specs.Slots.{slot_in_range}
use Rattle.notices.proofs.FateLaws.{slot_in_range-wide, held_within}
use Rattle.notices.proofs.LongParts.{fate_fits}
use Rattle.receiver_calls.proofs.InPlace.{slot_there, circuit_heard}
use Rattle.receiver_calls.proofs.hear_circuit.Goals as goal

pub new-listed-requires : goal.new-listed-requires
new-listed-requires c =
    let there = c.slot_in.ensures ∙ slot_there _ _ c.requires.3 in
    (c.requires.3, ap (slot_in_range longest_long) there ∙ slot_in_range-wide c.args.given c.args.circuit _ c.requires.4)

pub slot_after-after-requires : goal.slot_after-after-requires
slot_after-after-requires c = held_within _ _ _ c.fate_of-fate.ensures

pub write_fate-requires : goal.write_fate-requires
write_fate-requires c =
    let a = c.args in
    let there = c.new-listed.ensures.1 ∙ c.slot_in.ensures ∙ slot_there _ _ c.requires.3 in
    let range = ap (slot_in_range (longest_at a.given a.circuit)) there ∙ c.requires.4 in (
      c.requires.1,
      rw (rw (c.packet.ensures, c.takes_long.ensures) at c.fate_of-fate.ensures) (fate_fits a.given a.circuit _ a.packet.now range a.long.now c.requires.2),
    )

pub returns : goal.returns
returns c =
    circuit_heard _ (stores c.args.store.now c.args.given c.args.long.now) _ _ (c.new-listed.ensures.1 ∙ c.slot_in.ensures ∙ slot_there _ _ c.requires.3)
    (rw (c.packet.ensures, c.takes_long.ensures) at c.fate_of-fate.ensures) (rw (c.packet-3.ensures, c.packet-2.ensures) at c.loss_told-loss.ensures)
    c.slot_after-after.ensures c.put_slot.ensures (rw c.new-listed.ensures.0 at (c.write_fate.ensures c.args.given))
