-- `words::Word::until_five` meets its contract.
use Rattle.words.proofs.Runs.{until_min}
use Rattle.words.proofs.Word.until_five.Goals as goal

pub returns : goal.returns
returns c = until_min c.args.ones c.args.self.bits _ _ c.requires c.behind-x.ensures c.min.ensures
