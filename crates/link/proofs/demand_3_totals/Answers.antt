-- `link::demand_3_totals` meets its contract: where demand 3 claims something, the pass totals are the claim's. Assumes nothing.
use Rattle.link.proofs.Demand3Totals.{demand-3-totals}
use Rattle.link.proofs.demand_3_totals.Goals as goal

pub returns : goal.returns
returns c = demand-3-totals
