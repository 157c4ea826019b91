-- `queues::placed_enabled` meets its contract: each frame placed has a priority that the bits in force in its block enable. Assumes nothing.
use Rattle.queues.proofs.PlacedEnabled.{placed-enabled}
use Rattle.queues.proofs.placed_enabled.Goals as goal

pub returns : goal.returns
returns c = placed-enabled
