-- `hdlc::led::stuff_number` meets its contract. The loop's invariant: the first i bytes are put, the ones free and the FCS register are those behind them, and
-- the others stand in `rest`.
use Prim.Native.Nat.{ℕ, ◌+◌, ◌-◌, ◌%◌, ◌<◌}
use native.Mathlib.Nat.{sub-zero}
use native.Mathlib.Omega.{arith}
use mathlib.Core.List.{[], ◌++◌}
use mathlib.Core.Path.{◌≡◌}
use lib.ListN.{take, drop, get_or}
use lib.Seq.{take_all}
use Rattle.bits.specs.Bits.{byte_bits, bits_of}
use Rattle.bits.proofs.Bits.{length-bits_of}
use Rattle.hdlc.specs.Leads.{led}
use Rattle.hdlc.specs.Stuffing.{stuff_from}
use Rattle.hdlc.specs.Writing.{stuffed_by}
use Rattle.hdlc.specs.Chunks.{WriterRoom}
use Rattle.hdlc.proofs.Leads.{length-led, led_byte, led-behind}
use Rattle.hdlc.proofs.ByWriter.{Room-new, WriterRoom-new, Room-close, Written-close, Stuffed_written, one_byte_more, Underway_start, Underway_room, Underway-step}
use Rattle.hdlc.proofs.led.stuff_number.Goals as goal

-- the next byte of the number
next_byte : (number n rest i : ℕ) → i < n → drop i (led number n []) ≡ led rest (n - i) [] →
    bits_of (take (i + 1) (led number n [])) ≡ bits_of (take i (led number n [])) ++ byte_bits (rest % 256)
next_byte number n rest i h e =
    let byte : get_or (led number n []) i 0 ≡ rest % 256 = led_byte number n rest h e in
    rw (← byte) (one_byte_more (led number n []) i (omega (arith, length-led number n)))

pub new-writer-requires : goal.new-writer-requires
new-writer-requires c =
    let bytes = led c.args.number c.args.n [] in
    Room-new c.args.pen (bits_of bytes) c.requires.room (omega (arith, length-bits_of bytes, length-led c.args.number c.args.n, c.requires.n_nonzero.0))

pub loop-init : goal.loop-init
unfolding bits_of
loop-init c = (rw sub-zero, Underway_start c.new-free.result.ones c.args.pen.fcs c.new-writer.ensures.0)

pub put_one-writer-requires : goal.put_one-writer-requires
unfolding stuffed_by
put_one-writer-requires c =
    let a = c.args in
    let i = c.loop.counter in
    let bytes = led a.number a.n [] in
    let room : WriterRoom a.buf.now c.new-writer.result (stuff_from (bits_of bytes) c.new-free.result.ones) =
    rw c.new-free.ensures (WriterRoom-new c.new-writer.ensures c.requires.room) in
    let next = next_byte a.number a.n c.loop.rest i c.loop-test.true c.loop.invariant.0 in
    Underway_room c.loop.invariant.1 bytes (i + 1) (byte_bits (c.loop.rest % 256)) next room

pub loop-preserved : goal.loop-preserved
loop-preserved c =
    let a = c.args in
    let next = next_byte a.number a.n c.loop.rest c.loop.counter c.loop-test.true c.loop.invariant.0 in (
      led-behind a.number a.n c.loop.rest c.loop-test.true c.loop.invariant.0,
      Underway-step c.loop.invariant.1 (byte_bits (c.loop.rest % 256)) next c.put_one-writer.ensures c.put_one-writer.auto.buf c.behind-free.ensures c.fcs_byte-fcs.ensures,
    )

pub close-requires : goal.close-requires
unfolding stuffed_by
close-requires c =
    let a = c.args in
    let bytes = led a.number a.n [] in
    let all = take_all c.loop.counter bytes (omega (arith, length-led a.number a.n, c.loop-test.false)) in
    let u = rw (all, c.new-free.ensures) at c.loop.invariant.1 in
    Room-close c.new-writer.ensures u.put c.requires.room u.long

pub returns : goal.returns
returns c =
    let a = c.args in
    let bytes = led a.number a.n [] in
    let all = take_all c.loop.counter bytes (omega (arith, length-led a.number a.n, c.loop-test.false)) in
    let u = rw (all, c.new-free.ensures) at c.loop.invariant.1 in
    Stuffed_written a.pen (bits_of bytes) (Written-close c.new-writer.ensures u.put c.close.ensures) u.ones u.register
