-- `writing::Waiting::part` meets its contract.
use native.Mathlib.Omega.{arith}
use borrow.Author.Tests.{ltb-true}
use Rattle.packet.specs.Messages.{packets}
use Rattle.offering.specs.Record.{pending}
use Rattle.writing.proofs.PacketWriting.{part_within, part_at_part}
use Rattle.writing.proofs.Waiting.part.Goals as goal

pub of-part-requires : goal.of-part-requires
unfolding pending
of-part-requires c = ltb-true c.args.self.now.slot.place (packets c.args.self.now.slot.length) c.args.self.now.waits

pub overflow_add-to : goal.overflow_add-to
overflow_add-to c =
    record { fits = omega (arith, part_within c.args.self.now.slot c.of-part.ensures c.args.self.now.waits) }

pub slice_bounds-result-end : goal.slice_bounds-result-end
slice_bounds-result-end c =
    omega (arith, part_within c.args.self.now.slot c.of-part.ensures c.args.self.now.waits, c.args.self.now.whole)

pub returns : goal.returns
returns c =
    part_at_part c.args.self.now.slot c.of-part.ensures c.args.self.now.message.now
