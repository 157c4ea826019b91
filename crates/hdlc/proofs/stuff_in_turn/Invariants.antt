-- `hdlc::stuff_in_turn` meets its contract. The loop's invariant: the bits of the bytes left, written from here, are all of them
-- written from the start, and so is the FCS register.
use mathlib.Core.Path.{◌≡◌}
use lib.ListN.{drop}
use Rattle.bits.specs.Bits.{bits_of}
use Rattle.fcs.specs.Fcs.{fcs_run}
use Rattle.hdlc.proofs.Writing.{ToGo}
use Rattle.hdlc.proofs.stuff_in_turn.Given as goal

abbrev pub invariant-loop-byte : goal.invariant-loop-byte
invariant-loop-byte l =
    ToGo l.initial.buf l.initial.p (bits_of l.bytes) l.buf l.p (bits_of (drop l.byte-index l.bytes)) ×
    (fcs_run l.p.fcs (bits_of (drop l.byte-index l.bytes)) ≡ fcs_run l.initial.p.fcs (bits_of l.bytes))
