-- `hdlc::stuff_in_turn` meets its contract. The loop's invariant: the bits of the bytes left, written from here, are all of them
-- written from the start, and so is the FCS register.
use Prim.Native.Nat.{ℕ, ◌+◌, ◌<◌}
use mathlib.Core.Path.{ap, sym, ◌∙◌}
use lib.ListN.{length, get_or, drop}
use Rattle.bits.specs.Bits.{byte_bits, bits_of}
use Rattle.fcs.specs.Fcs.{fcs_run}
use Rattle.fcs.proofs.Laws.{fcs_run-bits_of}
use Rattle.hdlc.proofs.Writing.{ToGo_room, ToGo-step, ToGo_end, Put-Stuffed, Stuffed-Put, Stuffed-fcs, bits_of-step, bits_of-none}
use Rattle.hdlc.proofs.stuff_in_turn.Goals as goal

pub stuff_by_bits-p-requires : goal.stuff_by_bits-p-requires
stuff_by_bits-p-requires c =
    let bytes = c.args.bytes.now in
    ToGo_room c.loop-byte.invariant.0 (byte_bits (get_or bytes c.loop-byte.byte-index 0)) (bits_of (drop (c.loop-byte.byte-index + 1) bytes))
    (bits_of-step bytes c.loop-byte.byte-index c.loop-byte-test.true)

pub loop-byte-preserved : goal.loop-byte-preserved
loop-byte-preserved c =
    let put = c.stuff_by_bits-p in
    let i = c.loop-byte.byte-index in
    let bytes = c.args.bytes.now in
    let byte = byte_bits (get_or bytes i 0) in
    let below : i < length bytes = c.loop-byte-test.true in (
      ToGo-step c.loop-byte.invariant.0 byte (bits_of (drop (i + 1) bytes)) (bits_of-step bytes i below)
          (Stuffed-Put byte put.ensures) put.auto.buf,
      ap (λ (r : ℕ). fcs_run r (bits_of (drop (i + 1) bytes))) (Stuffed-fcs byte put.ensures) ∙ sym (fcs_run-bits_of c.loop-byte.p.fcs bytes i below) ∙ c.loop-byte.invariant.1,
    )

pub returns : goal.returns
unfolding fcs_run
returns c =
    let l = c.loop-byte in
    let bytes = c.args.bytes.now in
    let none = bits_of-none bytes l.byte-index c.loop-byte-test.false in
    Put-Stuffed (bits_of bytes) (ToGo_end l.invariant.0 none) (rw none at l.invariant.1)
