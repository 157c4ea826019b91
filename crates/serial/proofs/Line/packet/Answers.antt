-- `Line::packet` meets its contract, test by test; the FCS is compared where it stands.
use native.Mathlib.Omega.{arith}
use borrow.Author.Rules.{rules}
use Rattle.serial.proofs.Stepping.{passes-outside, passes-escape, passes_short, passes_long, packet-right, packet-wrong}
use Rattle.serial.proofs.Line.packet.Goals as goal
use Rattle.serial.proofs.Line.packet.Goals.{then-not-self-via-then-not-self, then-not-self-via-else-not-self+then-self, then-not-self-via-else-not-self+else-self+then-self-lt4, then-not-self-via-else-not-self+else-self+else-self-lt4+then-self-gt21}

pub returns-then-not-self : goal.returns-then-not-self
returns-then-not-self c =
    let l = c.args.self.now in
    elim c.then-not-self.branch [
      | then-not-self-via-then-not-self w ↦ rw (passes-outside l w.if-not-self.true)
      | then-not-self-via-else-not-self+then-self w ↦ rw (passes-escape l w.if-self.true)
      | then-not-self-via-else-not-self+else-self+then-self-lt4 w ↦ rw (passes_short l (omega (arith, w.if-self-lt4.true)))
      | then-not-self-via-else-not-self+else-self+else-self-lt4+then-self-gt21 w ↦ rw (passes_long l (omega (arith, w.if-self-gt21.true)))
    ]

pub returns-then-given-fcs : goal.returns-then-given-fcs
returns-then-given-fcs c =
    packet-wrong c.args.self.now c.if-not-self.false c.if-self.false _ c.if-self-lt4.false c.if-self-gt21.false (search rules) c.fcs.ensures
    (λ e. c.if-given-fcs.true (omega arith))

pub returns : goal.returns
returns c =
    packet-right c.args.self.now c.if-not-self.false c.if-self.false _ c.if-self-lt4.false c.if-self-gt21.false (search rules) c.fcs.ensures
    (omega arith)
