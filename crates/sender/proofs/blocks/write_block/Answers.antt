-- `sender::blocks::write_block` meets its contract: the opening, the frames and the end of the block are written in turn.
use borrow.Author.Rules.{rules}
use Rattle.bits.proofs.Bits.{Bytes_each}
use Rattle.sender.proofs.BlockSteps.{before_opening, before_frames, before_closing, BlockWritten-closed}
use Rattle.sender.proofs.blocks.write_block.Goals as goal

pub put_opening-opening-requires : goal.put_opening-opening-requires
put_opening-opening-requires c =
    let before = before_opening _ _ _ _ _ c.args.request.now.system c.requires in
    record { bound = before.0; allowed = before.1 }

pub fill-block-requires : goal.fill-block-requires
fill-block-requires c =
    let before = before_frames _ _ _ _ _ _ c.requires c.put_opening-opening.ensures c.put_opening-opening.auto.buf c.in_force-enable.ensures in
    record { sender_value = before.0; long_enough = before.1.0; zeros_le_at = before.1.1 }

pub close-requires : goal.close-requires
close-requires c =
    before_closing _ _ _ _ _ _ c.requires c.put_opening-opening.ensures c.put_opening-opening.auto.buf
    c.in_force-enable.ensures c.fill-block.ensures c.fill-block.auto.buf

pub returns : goal.returns
returns c =
    BlockWritten-closed _ _ _ _ _ _ c.requires c.put_opening-opening.ensures c.put_opening-opening.auto.buf
    c.in_force-enable.ensures c.fill-block.ensures c.fill-block.auto.buf c.close.ensures
    (Bytes_each c.args.buf.now (λ i. search rules)) (Bytes_each c.close.new.buf (λ i. search rules))
