-- `aes18::aes18_sender_offer_long` meets its contract: numbers above a byte are refused as the clipped ones are.
use Rattle.aes18.proofs.SenderOutcomes.{long_called}
use Rattle.aes18.proofs.aes18_sender_offer_long.Goals as goal

pub returns : goal.returns
returns c =
    long_called _ _ c.args.priority c.args.repetition _ c.if-record-lt-LENGTH.false c.clipped.ensures c.clipped-2.ensures c.answer_number.ensures c.offer_long.ensures
