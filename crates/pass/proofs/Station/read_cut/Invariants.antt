-- `pass::Station::read_cut` is safe and ends.
use Rattle.std.proofs.Common.{◌-◌}
use Rattle.pass.proofs.Station.read_cut.Given as goal

abbrev pub decreases-loop-at : goal.decreases-loop-at
decreases-loop-at g l = l.to - l.at
