-- `queues::in_range_stands` meets its contract: a record in range stands for queues. Assumes nothing.
use Rattle.queues.proofs.InRangeStands.{in-range-stands}
use Rattle.queues.proofs.in_range_stands.Goals as goal

pub returns : goal.returns
returns c = in-range-stands
