-- `pass::Station::read_cut` is safe and ends: a call that is not refused reads on, and the cut's end is not passed.
use Rattle.std.proofs.Common.{arith}
use Rattle.pass.proofs.ReadOn.{read_on_lem}
use Rattle.pass.proofs.Station.read_cut.Goals as goal

pub overflow_add-at : goal.overflow_add-at
overflow_add-at g c =
    omega (arith, read_on_lem _ _ _ _ _ c.loop-at-test.true c.read.ensures c.in-Ok.is)

pub loop-at-smaller : goal.loop-at-smaller
loop-at-smaller g c =
    omega (arith, read_on_lem _ _ _ _ _ c.loop-at-test.true c.read.ensures c.in-Ok.is)
