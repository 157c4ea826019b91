-- `hdlc::put_flag` meets its contract: 7E hex is put with a writer of its own.
use native.Mathlib.Omega.{arith}
use mathlib.Core.Path.{refl}
use Rattle.bits.specs.Bits.{byte_bits}
use Rattle.hdlc.specs.Frames.{flag}
use Rattle.hdlc.proofs.Ending.{length-flag}
use Rattle.hdlc.proofs.ByWriter.{WriterPut_number, Written-close}
use Rattle.hdlc.proofs.put_flag.Goals as goal

pub new-requires : goal.new-requires
new-requires c = omega (arith, length-flag)

pub put-writer-requires : goal.put-writer-requires
put-writer-requires c = (c.new.ensures.0, omega (arith, length-flag), omega arith, omega arith, omega arith)

pub close-requires : goal.close-requires
close-requires c =
    (c.put-writer.ensures.0, omega (arith, length-flag, c.put-writer.auto.s), omega (arith, length-flag))

pub returns : goal.returns
unfolding flag byte_bits
returns c =
    Written-close c.new.ensures (WriterPut_number 8 0x7e refl c.put-writer.ensures) c.close.ensures
