-- `pass::receive` is safe and ends.
use Rattle.std.proofs.Common.{◌-◌}
use Rattle.pass.proofs.receive.Given as goal

abbrev pub decreases-loop-at : goal.decreases-loop-at
decreases-loop-at g l = 14400 - l.at
