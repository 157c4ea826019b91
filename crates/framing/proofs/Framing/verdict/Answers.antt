-- `Framing::verdict` meets its contract, test by test; the FCS is compared where it stands.
use Rattle.std.proofs.Common.{rules, arith}
use Rattle.framing.proofs.Stepping.{verdict_of_right, verdict_of_wrong}
use Rattle.framing.proofs.Framing.verdict.Goals as goal

pub returns-then-given-fcs : goal.returns-then-given-fcs
returns-then-given-fcs c =
    verdict_of_wrong c.args.self.now _
    c.if-self-ne3.false
    c.if-count-lt32.false
    c.if-count-gt168.false
    c.if-count-ne0.false
    (search rules)
    c.fcs.ensures
    (λ e. c.if-given-fcs.true (omega arith))

pub returns : goal.returns
returns c =
    verdict_of_right c.args.self.now _
    c.if-self-ne3.false
    c.if-count-lt32.false
    c.if-count-gt168.false
    c.if-count-ne0.false
    (search rules)
    c.fcs.ensures
    (search rules)
