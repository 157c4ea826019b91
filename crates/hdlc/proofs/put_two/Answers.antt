-- `hdlc::put_two` meets its contract: sixteen bits at once, or the bytes' chunks one behind the other.
use Prim.Native.Nat.{◌+◌, ◌*◌}
use native.Mathlib.Omega.{arith}
use mathlib.Core.List.{◌++◌}
use mathlib.Core.Path.{sym, ◌∙◌}
use lib.ListN.{length-append}
use Rattle.bits.specs.Bits.{byte_bits}
use Rattle.bits.proofs.Bits.{length-byte_bits}
use Rattle.hdlc.proofs.Stuffing.{stuff_from-least}
use Rattle.hdlc.proofs.FiveOnes.{two_bytes_lem}
use Rattle.hdlc.proofs.ByWriter.{WriterPut_number, stuffed_first, stuffed_next, stuffed_append}
use Rattle.hdlc.proofs.put_two.Goals as goal

pub put-requires : goal.put-requires
put-requires c =
    let a = byte_bits c.args.low in
    let b = byte_bits c.args.high in
    let r = c.requires in (
      r.held,
      omega (arith, r.within, stuff_from-least (a ++ b) c.args.free.ones, length-append a b, length-byte_bits c.args.low, length-byte_bits c.args.high),
      omega arith,
      omega arith,
      omega arith,
    )

pub returns-then-plain_two : goal.returns-then-plain_two
returns-then-plain_two c =
    let low = c.args.low in
    let high = c.args.high in
    WriterPut_number 16 (low + 256 * high) (two_bytes_lem low high (omega arith) ∙ sym (c.plain_two.ensures c.if-plain_two.true)) c.put.ensures

pub put_one-first-requires : goal.put_one-first-requires
put_one-first-requires c =
    stuffed_first (byte_bits c.args.low) (byte_bits c.args.high) c.args.free.ones c.requires

pub put_one-requires : goal.put_one-requires
put_one-requires c =
    stuffed_next (byte_bits c.args.low) (byte_bits c.args.high) c.args.free.ones c.put_one-first.ensures c.behind.ensures c.requires c.put_one-first.auto.buf

pub returns : goal.returns
returns c =
    stuffed_append (byte_bits c.args.low) (byte_bits c.args.high) c.args.free.ones c.put_one-first.ensures c.behind.ensures
    c.put_one.ensures
