-- `layout::put_number` meets its contract. The loop's invariant: with the bytes that are left to write, they are what is to be written.
use mathlib.Core.Path.{◌≡◌}
use Prim.Native.Nat.{◌-◌}
use lib.Seq.{sets}
use Rattle.layout.specs.Layout.{low_bytes}
use Rattle.layout.proofs.put_number.Given as goal

abbrev pub invariant-loop-byte : goal.invariant-loop-byte
invariant-loop-byte l =
    sets l.byte-items l.byte-index (low_bytes (l.width - l.byte-index) l.left) ≡ sets l.initial.byte-items 0 (low_bytes l.width l.n)
