-- `writing::put_bytes` meets its contract. The loop's invariant: with the bytes that are left, the output and the place behind it are those asked for.
use mathlib.Core.List.{flatten}
use mathlib.Core.Path.{sym, ◌∙◌}
use native.Mathlib.Nat.{add-zero}
use native.Mathlib.Omega.{arith}
use lib.ListN.{get_or, drop_of_length-le}
use Rattle.serial.specs.Octets.{escaped_bytes}
use Rattle.serial.proofs.Escaping.{length-escaped, place_next, written_next}
use Rattle.serial.proofs.writing.put_bytes.Goals as goal

pub loop-byte-preserved : goal.loop-byte-preserved
loop-byte-preserved c =
    let l = c.loop-byte in
    let bytes = c.args.bytes.now in
    let below = c.loop-byte-test.true in
    let put = c.put_byte-behind.ensures in (
      omega (arith, put.0, length-escaped (get_or bytes l.byte-index 0), l.invariant.0),
      place_next bytes l.output _ l.byte-index l.behind _ below put.0 put.1 ∙ l.invariant.1,
      written_next bytes l.output _ l.byte-index l.behind _ below put.0 put.1 ∙ l.invariant.2,
    )

pub returns : goal.returns
unfolding escaped_bytes flatten
returns c =
    let none = drop_of_length-le c.args.bytes.now c.loop-byte-test.false in (
      sym (add-zero _) ∙ rw none at c.loop-byte.invariant.1,
      rw none at c.loop-byte.invariant.2,
    )
