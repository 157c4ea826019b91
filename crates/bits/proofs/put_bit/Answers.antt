-- `bits::put_bit` meets its contract: the buffer with one byte's bit set is the buffer with that bit set.
use Rattle.bits.proofs.BitInByte.{set-bits_of}
use Rattle.bits.proofs.put_bit.Goals as goal

pub returns : goal.returns
returns c =
    set-bits_of
    c.args.s.now
    c.args.at
    c.args.bit
    c.with_bit.result
    c.requires
    c.with_bit.ensures
