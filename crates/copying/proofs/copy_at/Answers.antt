-- `copying::copy_at` meets its contract: the part holds the bytes.
use Prim.Native.Nat.{◌+◌, ◌-◌}
use native.Mathlib.Omega.{arith}
use lib.ListN.{length}
use Rattle.bits.proofs.Lists.{sets_mid}
use Rattle.copying.proofs.copy_at.Goals as goal

pub returns : goal.returns
returns c =
    let a = c.args in
    rw c.copy_from_slice.ensures.after
    (sets_mid a.dst.now a.src.now a.at (a.at + length a.src.now - a.at) (omega arith) (omega arith))
