-- `hdlc::stuff_bytes` meets its contract: one byte after another, or through one bit writer. The loop's invariant: the first pairs of bytes are put, and the ones
-- free and the FCS register are those behind them.
use Prim.Native.Nat.{◌*◌}
use lib.ListN.{take}
use Rattle.bits.specs.Bits.{bits_of}
use Rattle.hdlc.proofs.ByWriter.{Underway}
use Rattle.hdlc.proofs.stuff_bytes.Given as goal

abbrev pub invariant-loop-i : goal.invariant-loop-i
invariant-loop-i l =
    Underway l.initial.buf l.initial.writer l.initial.free.ones l.initial.fcs (bits_of (take (2 * l.i) l.bytes)) l.buf l.writer l.free.ones l.fcs
