-- `hdlc::chunks::Free::behind` meets its contract: the table says it at each byte.
use native.Mathlib.Omega.{arith}
use mathlib.Core.Path.{sym, ◌∙◌}
use borrow.Author.Tests.{eq-eqb, ne_eqb, lt-ltb, le-ltb}
use Rattle.hdlc.proofs.ByteTable.{free_is}
use Rattle.hdlc.proofs.chunks.Free.behind.Goals as goal
use Rattle.hdlc.proofs.chunks.Free.behind.Goals.{then-self-gt2, else-self-gt2}

pub returns-then-byte-eq255 : goal.returns-then-byte-eq255
returns-then-byte-eq255 c =
    let free = c.args.self in
    let is = free_is free.ones c.args.byte free.few (omega arith) in
    elim c.if-self-gt2.branch [
      | then-self-gt2 w ↦ w.result-is ∙ sym (rw (eq-eqb _ _ c.if-byte-eq255.true, lt-ltb _ _ w.if-self-gt2.true) at is)
      | else-self-gt2 w ↦ w.result-is ∙ sym (rw (eq-eqb _ _ c.if-byte-eq255.true, le-ltb _ _ w.if-self-gt2.false) at is)
    ]

pub returns-then-ones-lt5 : goal.returns-then-ones-lt5
returns-then-ones-lt5 c =
    let free = c.args.self in
    let few = rw c.leading_ones-ones.ensures at c.if-ones-lt5.true in
    rw c.leading_ones-ones.ensures
    (sym (rw (ne_eqb _ _ c.if-byte-eq255.false, lt-ltb _ _ few) at (free_is free.ones c.args.byte free.few (omega arith))))

pub returns : goal.returns
returns c =
    let free = c.args.self in
    let many = rw c.leading_ones-ones.ensures at c.if-ones-lt5.false in
    rw c.leading_ones-ones.ensures
    (sym (rw (ne_eqb _ _ c.if-byte-eq255.false, le-ltb _ _ many) at (free_is free.ones c.args.byte free.few (omega arith))))
