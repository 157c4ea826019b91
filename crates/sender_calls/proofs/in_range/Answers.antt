-- `sender_calls::in_range` meets its contract: its tests are the definition's.
use Rattle.std.proofs.Common.{arith}
use Rattle.std.proofs.lemmas.Grind.{common_steps}
use Rattle.layout.specs.Layout.{byte_at, circuits_in}
use Rattle.offering.specs.Record.{in_range}
use Rattle.sender_layout.specs.SenderBytes.{sender_in}
use Rattle.sender_calls.proofs.in_range.Goals.{then-circuits_in_range, else-circuits_in_range, then-bytes-le3, else-bytes-le3}
use Rattle.sender_calls.proofs.in_range.Goals as goal

pub slots_in_range-requires : goal.slots_in_range-requires
unfolding byte_at circuits_in
slots_in_range-requires c = grind (arith, common_steps)

pub returns-then-bytes-le15 : goal.returns-then-bytes-le15
unfolding in_range sender_in circuits_in byte_at
returns-then-bytes-le15 c = grind (arith, common_steps)

pub returns-else-bytes-le15 : goal.returns-else-bytes-le15
unfolding in_range sender_in circuits_in byte_at
returns-else-bytes-le15 c = grind (arith, common_steps)
