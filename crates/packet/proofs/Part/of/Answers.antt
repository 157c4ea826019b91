-- `packet::Part::of` meets its contract. Assumes nothing.
use Prim.Native.Nat.{◌+◌, ◌-◌, ◌*◌}
use native.Mathlib.Omega.{arith}
use Rattle.packet.specs.Messages.{packets}
use Rattle.packet.proofs.Segments.{length-header, part_of_eq}
use Rattle.packet.proofs.Part.of.Goals as goal

pub overflow_sub-first : goal.overflow_sub-first
overflow_sub-first c = omega (arith, length-header c.args.n)

pub returns-then-k-eq0 : goal.returns-then-k-eq0
returns-then-k-eq0 c =
    let a = c.args in
    let h = c.header_length-first.result in
    part_of_eq a.n a.k 0 (16 - h) c.min-len.result (omega arith) (omega (arith, length-header a.n)) (omega arith)

pub overflow_mul-from : goal.overflow_mul-from
unfolding packets
overflow_mul-from c = omega (arith, length-header c.args.n)

pub overflow_add-from : goal.overflow_add-from
unfolding packets
overflow_add-from c = omega (arith, length-header c.args.n)

pub overflow_sub-n : goal.overflow_sub-n
unfolding packets
overflow_sub-n c = omega (arith, length-header c.args.n)

pub returns : goal.returns
returns c =
    let a = c.args in
    let h = c.header_length-first.result in
    let from = 16 - h + 16 * (a.k - 1) in
    part_of_eq a.n a.k from 16 c.min-len-2.result (omega (arith, length-header a.n)) (omega (arith, length-header a.n))
    (omega (arith, c.min-len-2.ensures))
