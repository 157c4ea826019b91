-- `queues::enable_in_force` meets its contract: after any calls the enable bits in force are those of the last system packet sent. Assumes nothing.
use Rattle.queues.proofs.EnableInForce.{enable-in-force}
use Rattle.queues.proofs.enable_in_force.Goals as goal

pub returns : goal.returns
returns c = enable-in-force
