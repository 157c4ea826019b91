-- `fcs::fcs_bytes` meets its contract. The loop's invariant: the register over the bytes that are left is the register over all of
-- them from the start. Assumes nothing.
use Prim.Native.Nat.{◌+◌, ◌-◌, ◌*◌, ◌≤◌, ◌<◌}
use native.Mathlib.Omega.{arith}
use mathlib.Core.Path.{◌≡◌, sym, ◌∙◌}
use lib.ListN.{length, drop_of_length-le}
use Rattle.bits.specs.Bits.{bits_of}
use Rattle.fcs.specs.Fcs.{fcs_run}
use Rattle.fcs.proofs.Laws.{fcs_run-bits_of, fcs_run_two}
use Rattle.fcs.proofs.fcs_bytes.Goals as goal

pub loop-i-preserved : goal.loop-i-preserved
loop-i-preserved c =
    let l = c.loop-i in
    let bytes = c.args.bytes.now in
    let two : 2 * l.i + 2 ≤ length bytes = omega arith in
    let next : 2 * (l.i + 1) ≡ 2 * l.i + 2 = omega arith in
    rw (c.fcs_two-r.ensures, next) (sym (fcs_run_two l.r bytes (2 * l.i) two) ∙ l.invariant)

pub returns-then-bytes-eq1 : goal.returns-then-bytes-eq1
unfolding bits_of fcs_run
returns-then-bytes-eq1 c =
    let l = c.loop-i in
    let bytes = c.args.bytes.now in
    let below : 2 * l.i < length bytes = omega arith in
    let all : length bytes ≤ 2 * l.i + 1 = omega arith in
    let last : length bytes - 1 ≡ 2 * l.i = omega arith in
    rw (c.fcs_byte.ensures, last) (rw (drop_of_length-le bytes all) at (sym (fcs_run-bits_of l.r bytes (2 * l.i) below) ∙ l.invariant))

pub returns : goal.returns
unfolding bits_of fcs_run
returns c =
    let all : length c.args.bytes.now ≤ 2 * c.loop-i.i = omega arith in
    rw (drop_of_length-le c.args.bytes.now all) at c.loop-i.invariant
