-- `hdlc::end_frame` meets its contract: the FCS's low byte, its high byte and a flag are written in turn, bit by bit or with one bit writer.
use native.Mathlib.Omega.{arith}
use Prim.Native.Nat.{ℕ}
use lib.ListN.{length}
use mathlib.Core.List.{List, ◌++◌}
use mathlib.Core.Path.{◌≡◌, refl, ◌∙◌}
use Rattle.bits.specs.Bits.{byte_bits}
use Rattle.bits.specs.declared.writer.BitWriter.{BitWriter}
use Rattle.fcs.specs.Fcs.{complement}
use Rattle.hdlc.specs.Stuffing.{stuff_from, free_after}
use Rattle.hdlc.specs.declared.Pen.{Pen}
use Rattle.hdlc.specs.Frames.{flag}
use Rattle.hdlc.specs.Writing.{Put, ending}
use Rattle.hdlc.specs.Chunks.{WriterRoom, WriterPut}
use Rattle.hdlc.proofs.Writing.{Put_append, Stuffed-Put}
use Rattle.hdlc.proofs.ByWriter.{WriterPut_number, WriterRoom-new, stuffed_first, stuffed_next, stuffed_append, Room-close, Written-close}
use Rattle.hdlc.proofs.Ending.{
  low,
  high,
  length-flag,
  Room_low,
  Room_high,
  Room-flag,
  Written-ending,
  Room_at,
  WriterRoom-fcs,
  WriterRoom-flag,
  WriterPut-ending,
}
use Rattle.hdlc.proofs.end_frame.Goals as goal

-- both bytes of the FCS put
fcs_put : {old mid new : List ℕ} {w v u : BitWriter} {free next : ℕ} (pen : Pen) → free ≡ pen.free → WriterPut old w (stuff_from (low pen) free) mid v →
    next ≡ free_after (low pen) free → WriterPut mid v (stuff_from (high pen) next) new u → WriterPut old w (stuff_from (low pen ++ high pen) pen.free) new u
fcs_put pen e p f q = rw (← e) (stuffed_append (low pen) (high pen) _ p f q)

pub stuff_by_bits-p-requires : goal.stuff_by_bits-p-requires
unfolding complement
stuff_by_bits-p-requires c =
    Room_low c.args.pen c.requires

pub stuff_by_bits-q-requires : goal.stuff_by_bits-q-requires
unfolding complement
stuff_by_bits-q-requires c =
    Room_high c.args.pen c.requires (Stuffed-Put (low c.args.pen) c.stuff_by_bits-p.ensures) c.stuff_by_bits-p.auto.buf

pub put_flag-requires : goal.put_flag-requires
unfolding complement
put_flag-requires c =
    let both : Put c.args.buf.now c.args.pen (low c.args.pen ++ high c.args.pen) c.stuff_by_bits-q.new.buf c.stuff_by_bits-q.result =
    let pen = c.args.pen in
    Put_append (low pen) (high pen) (Stuffed-Put (low pen) c.stuff_by_bits-p.ensures) (Stuffed-Put (high pen) c.stuff_by_bits-q.ensures) in
    Room-flag c.args.pen c.requires both (c.stuff_by_bits-q.auto.buf ∙ c.stuff_by_bits-p.auto.buf)

pub returns-then-pen-gt4 : goal.returns-then-pen-gt4
unfolding complement
returns-then-pen-gt4 c =
    let both : Put c.args.buf.now c.args.pen (low c.args.pen ++ high c.args.pen) c.stuff_by_bits-q.new.buf c.stuff_by_bits-q.result =
    let pen = c.args.pen in
    Put_append (low pen) (high pen) (Stuffed-Put (low pen) c.stuff_by_bits-p.ensures) (Stuffed-Put (high pen) c.stuff_by_bits-q.ensures) in
    Written-ending c.args.pen both c.put_flag.ensures

pub new-requires : goal.new-requires
new-requires c =
    Room_at c.args.pen c.requires

pub put_one-first-requires : goal.put_one-first-requires
unfolding complement
put_one-first-requires c =
    let pen = c.args.pen in
    let room = WriterRoom-fcs pen (WriterRoom-new c.new.ensures c.requires) in
    rw c.new-free.ensures (stuffed_first (low pen) (high pen) pen.free room)

pub put_one-writer-requires : goal.put_one-writer-requires
unfolding complement
put_one-writer-requires c =
    let pen = c.args.pen in
    let room = WriterRoom-fcs pen (WriterRoom-new c.new.ensures c.requires) in
    let first = rw c.new-free.ensures at c.put_one-first.ensures in
    let free = rw c.new-free.ensures at c.behind.ensures in
    stuffed_next (low pen) (high pen) pen.free first free room c.put_one-first.auto.buf

pub put-flagged-requires : goal.put-flagged-requires
unfolding complement
put-flagged-requires c =
    let room : WriterRoom c.args.buf.now c.new.result (ending c.args.pen) =
    WriterRoom-new c.new.ensures c.requires in
    let fcs-put = fcs_put c.args.pen c.new-free.ensures c.put_one-first.ensures c.behind.ensures c.put_one-writer.ensures in
    let fcs-length : length c.put_one-writer.new.buf ≡ length c.args.buf.now =
    c.put_one-writer.auto.buf ∙ c.put_one-first.auto.buf in
    let r = WriterRoom-flag c.args.pen fcs-put room fcs-length in
    (r.held, omega (arith, r.within, length-flag), omega arith, omega arith, omega arith)

pub close-requires : goal.close-requires
unfolding flag byte_bits complement
close-requires c =
    let fcs-put = fcs_put c.args.pen c.new-free.ensures c.put_one-first.ensures c.behind.ensures c.put_one-writer.ensures in
    let fcs-length : length c.put_one-writer.new.buf ≡ length c.args.buf.now =
    c.put_one-writer.auto.buf ∙ c.put_one-first.auto.buf in
    let all-put : WriterPut c.args.buf.now c.new.result (ending c.args.pen) c.put-flagged.new.s c.put-flagged.result =
    let pen = c.args.pen in
    WriterPut-ending pen fcs-put (WriterPut_number 8 0x7e refl c.put-flagged.ensures) in
    Room-close c.new.ensures all-put c.requires (c.put-flagged.auto.s ∙ fcs-length)

pub returns : goal.returns
unfolding flag byte_bits complement
returns c =
    let fcs-put = fcs_put c.args.pen c.new-free.ensures c.put_one-first.ensures c.behind.ensures c.put_one-writer.ensures in
    let all-put : WriterPut c.args.buf.now c.new.result (ending c.args.pen) c.put-flagged.new.s c.put-flagged.result =
    let pen = c.args.pen in
    WriterPut-ending pen fcs-put (WriterPut_number 8 0x7e refl c.put-flagged.ensures) in
    Written-close c.new.ensures all-put c.close.ensures
