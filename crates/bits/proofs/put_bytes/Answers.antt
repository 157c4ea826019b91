-- `bits::put_bytes` meets its contract: the part is filled.
use mathlib.Core.Path.{◌≡◌}
use Prim.Native.Nat.{◌+◌, ◌-◌}
use native.Mathlib.Omega.{arith}
use lib.ListN.{length-take, length-drop, length-replicate, replicate, drop, take, length}
use Rattle.bits.proofs.Lists.{sets_mid}
use Rattle.bits.proofs.put_bytes.Goals as goal

pub returns : goal.returns
returns c =
    let a = c.args in
    let part : length (take (a.from + a.n - a.from) (drop a.from a.s.now)) ≡ a.n = simp (length-take, length-drop) (omega arith) in
    let fits : length (replicate a.n a.byte) ≡ a.from + a.n - a.from = rw length-replicate (omega arith) in
    let filled : c.fill.new.self ≡ replicate a.n a.byte = rw part at (c.fill.ensures.after (λ y e. e)) in
    rw filled (sets_mid a.s.now (replicate a.n a.byte) a.from (a.from + a.n - a.from) fits (omega arith))
