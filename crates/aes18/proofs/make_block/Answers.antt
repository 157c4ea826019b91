-- `aes18::make_block` meets its contract: numbers above a byte are refused as the clipped ones are.
use mathlib.Core.Bool.{not}
use mathlib.Core.Path.{refl}
use native.Mathlib.Omega.{arith}
use lib.Dec.{eqb}
use Rattle.sender.specs.declared.SystemPacket.{SystemPacket}
use Rattle.aes18.proofs.SenderOutcomes.{block_called, then_some-cond}
use Rattle.aes18.proofs.make_block.Goals as goal

pub returns : goal.returns
returns c =
    let a = c.args in
    let packet : SystemPacket = record { enable = c.clipped.result; code = c.clipped-2.result; information = a.info } in
    block_called _ _ _ _ (not (eqb a.system 0)) a.enable a.code a.info.now _ _ c.if-record-lt-LENGTH.false (omega arith) packet c.clipped.ensures
    c.clipped-2.ensures refl c.answer_number.ensures (rw (c.then_some.ensures, then_some-cond (not (eqb a.system 0)) packet) at c.block.ensures)
