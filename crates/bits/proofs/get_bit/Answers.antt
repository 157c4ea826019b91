-- `bits::get_bit` meets its contract: what it computes is the buffer's bit.
use Rattle.bits.specs.Bits.{odd}
use Rattle.bits.proofs.BitInByte.{get_or-bits_of}
use Rattle.bits.proofs.get_bit.Goals as goal

pub returns : goal.returns
unfolding odd
returns c = get_or-bits_of c.args.s.now c.args.at c.requires
