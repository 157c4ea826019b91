-- `hdlc::stuff_bytes` meets its contract: one byte after another, or through one bit writer. The loop's invariant: the first pairs of bytes are put, and the ones
-- free and the FCS register are those behind them.
use Prim.Native.Nat.{◌+◌, ◌-◌, ◌*◌, ◌/◌}
use native.Mathlib.Omega.{arith}
use mathlib.Core.List.{◌++◌}
use mathlib.Core.Path.{◌≡◌, refl, ap, sym, ◌∙◌}
use lib.ListN.{length, get_or}
use lib.Seq.{take_all}
use borrow.Author.Tests.{eqb-true, eqb-false}
use Rattle.bits.specs.Bits.{byte_bits, bits_of}
use Rattle.bits.proofs.Bits.{length-bits_of}
use Rattle.hdlc.specs.Stuffing.{stuff_from, free_after}
use Rattle.hdlc.specs.Writing.{stuffed_by}
use Rattle.hdlc.specs.Chunks.{WriterRoom}
use Rattle.hdlc.proofs.Stuffing.{free_after_append}
use Rattle.hdlc.proofs.Writing.{bits_of-none}
use Rattle.hdlc.proofs.InTurn.{Stuffed_nil}
use Rattle.hdlc.proofs.ByWriter.{
  Room-new,
  WriterRoom-new,
  Room-close,
  Written-close,
  Stuffed_written,
  pair_more,
  last_more,
  none_more,
  Underway,
  Underway_start,
  Underway_room,
  Underway_same,
  Underway-step,
}
use Rattle.hdlc.proofs.stuff_bytes.Goals as goal
use Rattle.hdlc.proofs.stuff_bytes.Goals.{then-bytes-eq1, else-bytes-eq1}

pub returns-then-is_empty : goal.returns-then-is_empty
returns-then-is_empty c =
    let a = c.args in
    let none : length a.bytes.now ≡ 0 = eqb-true _ _ (sym c.is_empty.ensures ∙ c.if-is_empty.true) in
    rw (bits_of-none a.bytes.now 0 (omega arith)) (Stuffed_nil a.buf.now a.pen)

pub new-writer-requires : goal.new-writer-requires
new-writer-requires c =
    let bytes = c.args.bytes.now in
    let some : length bytes ≡ 0 → ⊥ = eqb-false _ _ (sym c.is_empty.ensures ∙ c.if-is_empty.false) in
    Room-new c.args.pen (bits_of bytes) c.requires (omega (arith, length-bits_of bytes))

pub loop-i-init : goal.loop-i-init
unfolding bits_of
loop-i-init c = Underway_start c.new-free.result.ones c.args.pen.fcs c.new-writer.ensures.0

pub put_two-writer-requires : goal.put_two-writer-requires
unfolding stuffed_by
put_two-writer-requires c =
    let bytes = c.args.bytes.now in
    let i = c.loop-i.i in
    let room : WriterRoom c.args.buf.now c.new-writer.result (stuff_from (bits_of bytes) c.new-free.result.ones) =
    rw c.new-free.ensures (WriterRoom-new c.new-writer.ensures c.requires) in
    Underway_room c.loop-i.invariant bytes (2 * (i + 1)) (byte_bits (get_or bytes (2 * i) 0) ++ byte_bits (get_or bytes (2 * i + 1) 0))
    (pair_more bytes i (omega arith)) room

pub loop-i-preserved : goal.loop-i-preserved
loop-i-preserved c =
    let bytes = c.args.bytes.now in
    let i = c.loop-i.i in
    let low = byte_bits (get_or bytes (2 * i) 0) in
    let high = byte_bits (get_or bytes (2 * i + 1) 0) in
    let free = c.behind-free.ensures ∙ ap (free_after high) c.behind.ensures ∙ sym (free_after_append low high c.loop-i.free.ones) in
    Underway-step c.loop-i.invariant (low ++ high) (pair_more bytes i (omega arith)) c.put_two-writer.ensures
    c.put_two-writer.auto.buf free c.fcs_two-fcs.ensures

pub put_one-writer-requires : goal.put_one-writer-requires
unfolding stuffed_by
put_one-writer-requires c =
    let bytes = c.args.bytes.now in
    let i = c.loop-i.i in
    let all : i ≡ length bytes / 2 = omega arith in
    let last = last_more bytes i (omega arith) all in
    let room : WriterRoom c.args.buf.now c.new-writer.result (stuff_from (bits_of bytes) c.new-free.result.ones) =
    rw c.new-free.ensures (WriterRoom-new c.new-writer.ensures c.requires) in
    Underway_room c.loop-i.invariant bytes (length bytes) (byte_bits (get_or bytes (length bytes - 1) 0)) (ap bits_of (take_all (length bytes) bytes (omega arith)) ∙ last) room

pub close-requires : goal.close-requires
unfolding stuffed_by
close-requires c =
    let bytes = c.args.bytes.now in
    let i = c.loop-i.i in
    let u = c.loop-i.invariant in
    let all : i ≡ length bytes / 2 = omega arith in
    let whole : Underway c.args.buf.now c.new-writer.result c.new-free.result.ones c.args.pen.fcs (bits_of bytes) c.if-bytes-eq1.buf c.if-bytes-eq1.writer c.if-bytes-eq1.free.ones c.if-bytes-eq1.fcs =
    elim c.if-bytes-eq1.branch [
      | else-bytes-eq1 w ↦ Underway_same u (none_more bytes i (omega arith) all) w.buf-is (ap (λ f. f.ones) w.free-is) w.fcs-is w.writer-is
      | then-bytes-eq1 w ↦
          (Underway_same
          (Underway-step u (byte_bits (get_or bytes (length bytes - 1) 0)) (last_more bytes i (omega arith) all) w.put_one-writer.ensures w.put_one-writer.auto.buf w.behind-free-then-bytes-eq1.ensures w.fcs_byte-fcs.ensures)
          refl w.buf-is (ap (λ f. f.ones) w.free-is) w.fcs-is w.writer-is)
    ] in
    Room-close c.new-writer.ensures whole.put (rw c.new-free.ensures c.requires) whole.long

pub returns : goal.returns
returns c =
    let bytes = c.args.bytes.now in
    let i = c.loop-i.i in
    let u = c.loop-i.invariant in
    let all : i ≡ length bytes / 2 = omega arith in
    let whole : Underway c.args.buf.now c.new-writer.result c.new-free.result.ones c.args.pen.fcs (bits_of bytes) c.if-bytes-eq1.buf c.if-bytes-eq1.writer c.if-bytes-eq1.free.ones c.if-bytes-eq1.fcs =
    elim c.if-bytes-eq1.branch [
      | else-bytes-eq1 w ↦ Underway_same u (none_more bytes i (omega arith) all) w.buf-is (ap (λ f. f.ones) w.free-is) w.fcs-is w.writer-is
      | then-bytes-eq1 w ↦
          (Underway_same
          (Underway-step u (byte_bits (get_or bytes (length bytes - 1) 0)) (last_more bytes i (omega arith) all) w.put_one-writer.ensures w.put_one-writer.auto.buf w.behind-free-then-bytes-eq1.ensures w.fcs_byte-fcs.ensures)
          refl w.buf-is (ap (λ f. f.ones) w.free-is) w.fcs-is w.writer-is)
    ] in
    let u = rw c.new-free.ensures at whole in
    Stuffed_written c.args.pen (bits_of bytes) (Written-close c.new-writer.ensures u.put c.close.ensures) u.ones u.register
