-- `link::demand_3_without_long` meets its contract: where no long message is offered, demand 3 needs no condition. Assumes nothing.
use Rattle.link.proofs.WithoutLong.{demand-3-without-long}
use Rattle.link.proofs.demand_3_without_long.Goals as goal

pub returns : goal.returns
returns c = demand-3-without-long
