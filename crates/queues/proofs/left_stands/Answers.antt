-- `queues::left_stands` meets its contract: a record that stands for queues has their packets still to go. Assumes nothing.
use Rattle.queues.proofs.LeftCounts.{left-stands}
use Rattle.queues.proofs.left_stands.Goals as goal

pub returns : goal.returns
returns c = left-stands
