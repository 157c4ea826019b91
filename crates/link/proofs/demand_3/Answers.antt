-- `link::demand_3` meets its contract: demand 3 holds. Assumes nothing.
use Rattle.link.proofs.ClaimHolds.{demand-3}
use Rattle.link.proofs.demand_3.Goals as goal

pub returns : goal.returns
returns c = demand-3
