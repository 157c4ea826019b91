-- `hdlc::put_one` meets its contract: the byte's chunk is put.
use native.Mathlib.Omega.{arith}
use Rattle.hdlc.proofs.ByWriter.{chunk_length, WriterPut_number}
use Rattle.hdlc.proofs.put_one.Goals as goal

pub put-requires : goal.put-requires
put-requires c =
    let b = c.of-chunk.ensures in
    let r = c.requires in
    (r.held, omega (arith, r.within, chunk_length b), b.least, omega (arith, b.most), b.fits)

pub returns : goal.returns
returns c =
    let chunk = c.of-chunk in
    WriterPut_number chunk.result.len chunk.result.value chunk.ensures.bits c.put.ensures
