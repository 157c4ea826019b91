-- `bits::put_long_run` meets its contract: where it reaches the next whole byte it is put in three parts.
use mathlib.Core.Path.{◌≡◌}
use Prim.Native.Nat.{◌+◌, ◌*◌, ◌/◌, ◌%◌, ◌-◌}
use native.Mathlib.Omega.{arith}
use Rattle.bits.proofs.Bits.{bits_of-run}
use Rattle.bits.proofs.put_long_run.Goals as goal

pub returns : goal.returns
returns c =
    let a = c.args in
    let before = (8 - a.at % 8) % 8 in
    let edge : (a.at + before) % 8 ≡ 0 = omega arith in
    let all : before + 8 * ((a.n - before) / 8) + (a.n - before) % 8 ≡ a.n = omega (arith, c.if-n-before.false) in
    rw all at
    (bits_of-run a.s.now _ _ a.at before ((a.n - before) / 8) ((a.n - before) % 8) c.byte_of.result a.bit edge
    (omega (arith, c.put_run-2.auto.s, c.requires)) c.byte_of.ensures c.put_run-2.ensures c.put_bytes.ensures
    c.put_run-3.ensures)
