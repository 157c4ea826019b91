-- `offering::slots::offered_slot` meets its contract.
use native.Mathlib.Omega.{arith}
use borrow.Author.Rules.{rules}
use Rattle.packet.specs.Messages.{longest_long}
use Rattle.packet.proofs.Segments.{packets-most}
use Rattle.offering.specs.Offering.{offered_slot}
use Rattle.offering.proofs.slots.offered_slot.Goals as goal

pub packets-packets-requires : goal.packets-packets-requires
packets-packets-requires c = search rules

pub overflow_cast-packets : goal.overflow_cast-packets
overflow_cast-packets c = omega (arith, c.packets-packets.ensures, packets-most _ c.requires)

pub overflow_cast-result : goal.overflow_cast-result
unfolding longest_long
overflow_cast-result c = search rules

pub returns : goal.returns
unfolding offered_slot
returns c = rw c.packets-packets.ensures
