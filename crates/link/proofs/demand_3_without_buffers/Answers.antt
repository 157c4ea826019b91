-- `link::demand_3_without_buffers` meets its contract: without buffers the messages are handed over in the regions. Assumes nothing.
use Rattle.link.proofs.WithoutLong.{demand-3-without-buffers}
use Rattle.link.proofs.demand_3_without_buffers.Goals as goal

pub returns : goal.returns
returns c = demand-3-without-buffers
