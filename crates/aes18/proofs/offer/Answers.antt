-- `aes18::offer` meets its contract: numbers above a byte are refused as the clipped ones are.
use Rattle.aes18.proofs.SenderOutcomes.{offer_called}
use Rattle.aes18.proofs.offer.Goals as goal

pub returns : goal.returns
returns c =
    offer_called _ _ _ c.args.priority c.args.repetition _ c.if-record-lt-LENGTH.false c.clipped.ensures c.clipped-2.ensures c.answer_number.ensures c.offer.ensures
