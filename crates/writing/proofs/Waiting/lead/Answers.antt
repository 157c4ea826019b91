-- `writing::Waiting::lead` meets its contract: the address, the control byte and the extension, where present, stand below the header.
use native.Mathlib.Omega.{arith}
use mathlib.Core.List.{[]}
use mathlib.Core.Path.{◌∙◌}
use Rattle.hdlc.proofs.Leads.{led_two, led_three}
use Rattle.writing.proofs.PacketWriting.{lead_of-plain, lead_of-extended}
use Rattle.writing.proofs.Waiting.lead.Goals as goal

pub returns-then-circuit-eq0 : goal.returns-then-circuit-eq0
returns-then-circuit-eq0 c =
    let w = c.args.self.now in (
      led_two c.below.ensures c.below-others.ensures c.header-header.result.len []
          ∙ lead_of-plain w.circuit w.slot c.control-control.ensures c.header-header.ensures.0 c.if-circuit-eq0.true,
      omega arith,
    )

pub returns : goal.returns
returns c =
    let w = c.args.self.now in (
      led_three c.below-3.ensures c.below-others-2.ensures c.below-2.ensures c.header-header.result.len []
          ∙ lead_of-extended w.circuit w.slot c.control-control.ensures c.header-header.ensures.0 c.if-circuit-eq0.false,
      omega arith,
    )
