-- `words::gathering::kept` meets its contract.
use native.Mathlib.Omega.{arith}
use Rattle.words.proofs.GatheredBits.{gathers_kept, gathers_full}
use Rattle.words.proofs.gathering.kept.Goals as goal

pub returns-then-i-ge21 : goal.returns-then-i-ge21
returns-then-i-ge21 c =
    (λ y all old zeros. gathers_full c.args.stored.now c.args.count y all old c.if-i-ge21.true c.requires zeros, omega arith, omega arith)

pub returns : goal.returns
returns c =
    let a = c.args in (
      λ y all old zeros. rw c.from-rest.ensures (gathers_kept a.stored.now a.count y all old c.if-i-ge21.false),
      omega arith,
      omega (arith, c.if-i-ge21.false),
    )
