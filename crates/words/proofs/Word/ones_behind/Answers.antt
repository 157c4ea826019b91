-- `words::Word::ones_behind` meets its contract.
use native.Mathlib.Omega.{arith}
use Rattle.words.proofs.Pieces.{until_ends, until_ends_all}
use Rattle.words.proofs.Word.ones_behind.Goals as goal

pub returns-then-n-lt56 : goal.returns-then-n-lt56
returns-then-n-lt56 c =
    (until_ends c.args.self.bits c.args.ones c.args.n c.requires.0 c.requires.1 c.if-n-lt56.true, omega arith)

pub returns : goal.returns
returns c =
    until_ends_all c.args.self.bits c.args.ones c.args.n c.requires.0 c.requires.1 _ c.args.self.low c.if-n-lt56.false c.end_ones.ensures
