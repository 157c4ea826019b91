-- `queues::zeros_counted` meets its contract: the answers to block calls by the packets in their blocks. Assumes nothing.
use Rattle.queues.proofs.ZerosCounted.{zeros-counted}
use Rattle.queues.proofs.zeros_counted.Goals as goal

pub returns : goal.returns
returns c = zeros-counted
