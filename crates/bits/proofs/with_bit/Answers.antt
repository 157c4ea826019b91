-- `bits::with_bit` meets its contract: what it computes is `with_bit`, which is a byte and has the bit set.
use native.Mathlib.Omega.{arith}
use Rattle.bits.proofs.BitInByte.{with_bit_lt, byte_bits-with_bit}
use Rattle.bits.proofs.with_bit.Goals as goal

pub overflow_add-result : goal.overflow_add-result
overflow_add-result c = record { fits = with_bit_lt c.args.b c.args.k c.args.bit (omega arith) c.requires }

pub returns : goal.returns
returns c = byte_bits-with_bit c.args.b c.args.k c.args.bit c.requires
