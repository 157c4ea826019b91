-- `sender::blocks::make` meets its contract: a refusal leaves all as it was, and otherwise the block is written.
use mathlib.Core.Path.{sym}
use Rattle.packet.proofs.AnswerNumbers.{answer_of-Ok}
use Rattle.std.proofs.lemmas.Result.{err_from_is_err_and}
use Rattle.sender.proofs.BlockSteps.{BlockCalled_refused, BlockCalled-made}
use Rattle.sender.proofs.blocks.make.Goals as goal

pub write_block-block-requires : goal.write_block-block-requires
write_block-block-requires c = answer_of-Ok _ _ (sym c.in_ok-check.ensures)

pub returns : goal.returns
returns c = BlockCalled-made _ _ _ _ _ _ (answer_of-Ok _ _ (sym c.in_ok-check.ensures)) c.write_block-block.ensures

pub returns-in_err-check : goal.returns-in_err-check
returns-in_err-check c =
    let p = err_from_is_err_and c.from_residual.result c.from_residual.ensures.1 in
    rw (p.1, p.2) (BlockCalled_refused _ _ _ _ _ _ _ (sym c.in_err-check.ensures))
