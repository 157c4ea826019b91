-- `bits::byte_of` meets its contract.
use Rattle.bits.specs.Bits.{odd, low_bits, byte_bits}
use Rattle.bits.proofs.byte_of.Goals as goal

pub returns-then-bit : goal.returns-then-bit
unfolding byte_bits low_bits odd
returns-then-bit c = rw c.if-bit.true

pub returns : goal.returns
unfolding byte_bits low_bits odd
returns c = rw c.if-bit.false
