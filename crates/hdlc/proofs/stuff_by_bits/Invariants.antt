-- `hdlc::stuff_by_bits` meets its contract. The loop's invariant: the bits left of the byte, written from here, are all of them
-- written from the start.
use Prim.Native.Nat.{◌-◌, ◌/◌, ◌^◌}
use Rattle.bits.specs.Bits.{low_bits, byte_bits}
use Rattle.hdlc.proofs.Writing.{ToGo}
use Rattle.hdlc.proofs.stuff_by_bits.Given as goal

abbrev pub invariant-loop-k : goal.invariant-loop-k
invariant-loop-k l = ToGo l.initial.buf l.pen (byte_bits l.byte) l.buf l.p (low_bits (8 - l.k) (l.byte / 2 ^ l.k))
