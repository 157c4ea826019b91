-- `notices::hear` meets its contract: a number that is found is a listed circuit's.
use Rattle.std.proofs.Common.{sym, arith}
use Rattle.notices.specs.Slots.{fresh_slot, slot_at}
use Rattle.notices.proofs.FateLaws.{slot_in_range-wide}
use Rattle.notices.proofs.Hearings.{number_slot}
use Rattle.notices.proofs.hear.Goals as goal

pub offset_bounds-slots-number : goal.offset_bounds-slots-number
offset_bounds-slots-number c = omega (arith, (number_slot _ _ _ c.requires.1 c.requires.0 _ _ (sym c.in-Some-number_of.ensures)).0)

pub bounds-slots-number : goal.bounds-slots-number
bounds-slots-number c = (number_slot _ _ _ c.requires.1 c.requires.0 _ _ (sym c.in-Some-number_of.ensures)).0

pub new-requires : goal.new-requires
unfolding slot_at fresh_slot
new-requires c =
    let known = number_slot _ _ _ c.requires.1 c.requires.0 _ _ (sym c.in-Some-number_of.ensures) in
    (known.0, slot_in_range-wide c.args.given _ _ known.1)

pub hear_circuit-requires : goal.hear_circuit-requires
unfolding slot_at fresh_slot
hear_circuit-requires c = rw (c.new.ensures.1, c.new.ensures.0)
