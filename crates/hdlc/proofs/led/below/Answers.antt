-- `hdlc::led::below` meets its contract.
use native.Mathlib.Omega.{arith}
use Rattle.hdlc.proofs.Leads.{Below-sum}
use Rattle.hdlc.proofs.led.below.Goals as goal

pub returns : goal.returns
returns c = Below-sum (omega arith)
