-- `hdlc::stuff_by_bits` meets its contract. The loop's invariant: the bits left of the byte, written from here, are all of them
-- written from the start.
use Prim.Native.Nat.{◌+◌, ◌-◌, ◌/◌, ◌^◌}
use native.Mathlib.Nat.{div-one}
use mathlib.Core.List.{[], ◌∷◌}
use Rattle.bits.specs.Bits.{odd, low_bits, byte_bits}
use Rattle.hdlc.proofs.Writing.{ToGo_start, ToGo_room, ToGo-step, ToGo_end, Put-Stuffed, low_bits-step, low_bits-none}
use Rattle.hdlc.proofs.stuff_by_bits.Goals as goal

pub loop-k-init : goal.loop-k-init
unfolding byte_bits
loop-k-init c = rw div-one (ToGo_start c.requires)

pub stuff_bit-p-requires : goal.stuff_bit-p-requires
unfolding odd
stuff_bit-p-requires c =
    let l = c.loop-k in
    let b = c.args.byte in
    ToGo_room l.invariant (odd (b / 2 ^ l.k) ∷ []) (low_bits (8 - (l.k + 1)) (b / 2 ^ (l.k + 1))) (low_bits-step 8 l.k b c.loop-k-test.true)

pub loop-k-preserved : goal.loop-k-preserved
unfolding odd
loop-k-preserved c =
    let l = c.loop-k in
    let b = c.args.byte in
    ToGo-step l.invariant (odd (b / 2 ^ l.k) ∷ []) (low_bits (8 - (l.k + 1)) (b / 2 ^ (l.k + 1))) (low_bits-step 8 l.k b c.loop-k-test.true)
    c.stuff_bit-p.ensures.0 c.stuff_bit-p.auto.buf

pub returns : goal.returns
returns c =
    let l = c.loop-k in
    Put-Stuffed (byte_bits c.args.byte)
    (ToGo_end l.invariant (low_bits-none 8 l.k (c.args.byte / 2 ^ l.k) c.loop-k-test.false)) c.fcs_byte.ensures
