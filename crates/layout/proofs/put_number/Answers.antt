-- `layout::put_number` meets its contract. The loop's invariant: with the bytes that are left to write, they are what is to be written.
use mathlib.Core.Path.{◌∙◌}
use Prim.Native.Nat.{ℕ}
use native.Mathlib.Omega.{arith}
use lib.ListN.{length-take}
use Rattle.layout.proofs.Copies.{rest_written, all_written}
use Rattle.layout.proofs.put_number.Goals as goal

pub loop-byte-preserved : goal.loop-byte-preserved
loop-byte-preserved c =
    rw c.low_byte.ensures (rest_written _ _ _ _ (omega (arith, length-take {A = ℕ})) ∙ c.loop-byte.invariant)

pub returns : goal.returns
returns c = all_written _ _ _ _ _ _ _ c.requires c.loop-byte-test.false c.loop-byte.invariant
