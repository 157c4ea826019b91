-- `writing::Waiting::header` meets its contract: no byte, one or two.
use native.Mathlib.Omega.{arith}
use mathlib.Core.List.{[]}
use mathlib.Core.Path.{◌∙◌}
use Rattle.hdlc.specs.Leads.{led}
use Rattle.hdlc.proofs.Leads.{led_two}
use Rattle.writing.proofs.PacketWriting.{header_at_later, header_at_one, header_at_two}
use Rattle.writing.proofs.Waiting.header.Goals as goal

pub returns-then-self-ne0 : goal.returns-then-self-ne0
unfolding led
returns-then-self-ne0 c = (header_at_later c.args.self.now.slot c.if-self-ne0.true, omega arith, omega arith)

pub returns-then-header_length-eq1 : goal.returns-then-header_length-eq1
unfolding led
returns-then-header_length-eq1 c =
    let number = c.below.ensures in (
      number.bytes 0 []
          ∙ header_at_one c.args.self.now.slot c.if-self-ne0.false c.header_length.ensures c.header_first-first.ensures c.if-header_length-eq1.true,
      omega (arith, number.small 1 (omega arith)),
      omega arith,
    )

pub returns : goal.returns
unfolding led
returns c =
    let upper = c.below-second.ensures in
    let number = c.below-2.ensures in (
      led_two number upper 0 []
          ∙ header_at_two c.args.self.now.slot c.if-self-ne0.false c.header_length.ensures c.header_first-first.ensures
          c.if-header_length-eq1.false c.header_second.ensures,
      omega (arith, number.small 256 (omega (arith, upper.small 1 (omega arith)))),
      omega arith,
    )
