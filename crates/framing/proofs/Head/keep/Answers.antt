-- `Head::keep` meets its contract: the bits held back are written where they have room.
use native.Mathlib.Omega.{arith}
use borrow.Author.Rules.{rules}
use Rattle.framing.specs.Heads.{framing_of}
use Rattle.framing.proofs.Stepping.{plain_le, keep_room, keep-full}
use Rattle.framing.proofs.Head.keep.Goals as goal

pub overflow_add-end : goal.overflow_add-end
overflow_add-end c = omega (arith, plain_le c.args.self.phase _ c.plain_zeros-plain.ensures)

pub overflow_add-end-2 : goal.overflow_add-end-2
overflow_add-end-2 c = omega (arith, plain_le c.args.self.phase _ c.plain_zeros-plain.ensures)

pub returns-then-end-gt168 : goal.returns-then-end-gt168
returns-then-end-gt168 c =
    let a = c.args in
    keep-full (framing_of a.self a.bits.now) _ _
    c.phase_after-phase.ensures
    c.plain_zeros-plain.ensures
    c.if-end-gt168.true

pub returns : goal.returns
returns c =
    let a = c.args in
    keep_room (framing_of a.self a.bits.now) _ _
    c.phase_after-phase.ensures
    c.plain_zeros-plain.ensures
    _
    c.if-end-gt168.false
    (search rules)
    c.put_held.ensures
