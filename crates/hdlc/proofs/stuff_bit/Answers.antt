-- `hdlc::stuff_bit` meets its contract: a 0, a one behind which more may come, and the fifth one, with its 0, are each
-- written as the laws of one bit say.
use mathlib.Core.Bool.{false}
use mathlib.Core.List.{[], ◌∷◌}
use native.Mathlib.Omega.{arith}
use borrow.Author.Rules.{rules}
use Rattle.hdlc.specs.Writing.{Room}
use Rattle.hdlc.proofs.OneBit.{Put-zero, Put_one, Put_five, Room_bit, Room_five}
use Rattle.hdlc.proofs.stuff_bit.Goals as goal

pub put_bit-requires : goal.put_bit-requires
put_bit-requires c =
    omega (arith, Room_bit c.args.pen c.args.bit c.requires)

pub overflow_add-result : goal.overflow_add-result
overflow_add-result c =
    omega (arith, Room_bit c.args.pen c.args.bit c.requires)

pub returns-then-not-bit : goal.returns-then-not-bit
returns-then-not-bit c =
    (Put-zero c.args.pen (c.if-not-bit.true) c.put_bit.ensures, search rules)

pub overflow_add-at : goal.overflow_add-at
overflow_add-at c =
    let five : Room c.args.buf.now c.args.pen.at (c.args.bit ∷ false ∷ []) =
    Room_five c.args.pen (c.if-not-bit.false) c.if-free-eq0.true c.requires in
    omega (arith, five)

pub put_bit-requires-then-free-eq0 : goal.put_bit-requires-then-free-eq0
put_bit-requires-then-free-eq0 c =
    let five : Room c.args.buf.now c.args.pen.at (c.args.bit ∷ false ∷ []) =
    Room_five c.args.pen (c.if-not-bit.false) c.if-free-eq0.true c.requires in
    omega (arith, five, c.put_bit.auto.s)

pub overflow_add-result-then-free-eq0 : goal.overflow_add-result-then-free-eq0
overflow_add-result-then-free-eq0 c =
    let five : Room c.args.buf.now c.args.pen.at (c.args.bit ∷ false ∷ []) =
    Room_five c.args.pen (c.if-not-bit.false) c.if-free-eq0.true c.requires in
    omega (arith, five)

pub returns-then-free-eq0 : goal.returns-then-free-eq0
returns-then-free-eq0 c =
    let s = c in (
      Put_five s.args.pen (c.if-not-bit.false) c.if-free-eq0.true
          c.put_bit.ensures c.put_bit-then-free-eq0.ensures,
      search rules,
    )

pub overflow_add-result-2 : goal.overflow_add-result-2
overflow_add-result-2 c =
    omega (arith, Room_bit c.args.pen c.args.bit c.requires)

pub returns : goal.returns
returns c =
    let s = c in (
      Put_one s.args.pen (c.if-not-bit.false) c.if-free-eq0.false
          c.put_bit.ensures,
      search rules,
    )
