-- `link::demand_3_totals_without_long` meets its contract: where no long message is offered, the pass totals need no condition. Assumes nothing.
use Rattle.link.proofs.WithoutLong.{demand-3-totals-without-long}
use Rattle.link.proofs.demand_3_totals_without_long.Goals as goal

pub returns : goal.returns
returns c = demand-3-totals-without-long
