-- `offering::slots::pending_iff_left` meets its contract. Assumes nothing.
use Rattle.offering.proofs.Ranges.{pending-iff-left}
use Rattle.offering.proofs.slots.pending_iff_left.Goals as goal

pub returns : goal.returns
returns c = pending-iff-left
