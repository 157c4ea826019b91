-- `totals::pass_totals` meets its contract: pass totals are as document 02 says. Assumes nothing.
use Rattle.totals.proofs.CountsNotices.{pass-totals}
use Rattle.totals.proofs.pass_totals.Goals as goal

pub returns : goal.returns
returns c = pass-totals
