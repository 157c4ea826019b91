-- `queues::left_counts` meets its contract: after any calls the packets still to go are those of which copies wait. Assumes nothing.
use Rattle.queues.proofs.LeftCounts.{left-counts}
use Rattle.queues.proofs.left_counts.Goals as goal

pub returns : goal.returns
returns c = left-counts
