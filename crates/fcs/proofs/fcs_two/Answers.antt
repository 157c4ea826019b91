-- `fcs::fcs_two` meets its contract. Assumes nothing.
use native.Mathlib.Omega.{arith}
use Rattle.fcs.proofs.TwoBytes.{spread, after_two, fcs_two_at_once}
use Rattle.fcs.proofs.fcs_two.Goals as goal

pub returns : goal.returns
unfolding spread after_two
returns c = fcs_two_at_once c.args.register c.args.low c.args.high (omega arith) (omega arith) (omega arith)
