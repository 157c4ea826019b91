-- `sender_calls::block` meets its contract: a refusal leaves all as it was, and otherwise the block, the record and the answer are written.
use Rattle.std.proofs.Common.{◌≡◌, ◌∙◌, true, sym, ap}
use Rattle.std.proofs.lemmas.Result.{err_from_is_err_and}
use Rattle.packet.specs.Answers.{refusal_of, answered, answer_of}
use Rattle.packet.proofs.AnswerNumbers.{answer_of-Ok}
use Rattle.offering.specs.Record.{in_range}
use Rattle.sender.specs.Blocks.{block_refusal}
use Rattle.sender_layout.specs.SenderBytes.{sender_in}
use Rattle.sender_calls.proofs.BlocksInPlace.{block_refused, block-accepted}
use Rattle.sender_calls.proofs.block.Goals as goal

pub returns-then-not-in_range : goal.returns-then-not-in_range
unfolding answer_of answered refusal_of block_refusal
returns-then-not-in_range c = block_refused _ _ _ _ _ _ _ _ (rw (← c.in_range.ensures, c.if-not-in_range.true))

pub write_block-block-requires : goal.write_block-block-requires
write_block-block-requires c =
    let range : in_range c.args.lent.now.given c.sender_in-sender.result ≡ true = ap (in_range c.args.lent.now.given) c.sender_in-sender.ensures ∙ sym c.in_range.ensures ∙ c.if-not-in_range.false in
    answer_of-Ok _ _ (sym (c.in_ok-check_later.ensures _ range))

pub returns : goal.returns
returns c =
    let range : in_range c.args.lent.now.given c.sender_in-sender.result ≡ true = ap (in_range c.args.lent.now.given) c.sender_in-sender.ensures ∙ sym c.in_range.ensures ∙ c.if-not-in_range.false in
    block-accepted _ _ _ _ _ _ _ c.sender_in-sender.ensures (answer_of-Ok _ _ (sym (c.in_ok-check_later.ensures _ range)))
    c.write_block-block.ensures c.put_sender.ensures c.put_block_answer.ensures

pub returns-in_err-check_later : goal.returns-in_err-check_later
returns-in_err-check_later c =
    let range : in_range c.args.lent.now.given (sender_in c.args.«record».now) ≡ true = sym c.in_range.ensures ∙ c.if-not-in_range.false in
    let p = err_from_is_err_and c.from_residual.result c.from_residual.ensures.1 in
    rw (p.1, p.2) (block_refused _ _ _ _ _ _ _ _ (sym (c.in_err-check_later.ensures _ range)))
