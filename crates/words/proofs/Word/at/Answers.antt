-- `words::Word::at` meets its contract.
use native.Mathlib.Omega.{arith}
use Rattle.words.proofs.Numbers.{bits_from}
use Rattle.words.proofs.Word.at.Goals as goal

pub returns : goal.returns
returns c = bits_from c.args.s.now c.args.at _ _ c.eight_bytes.ensures (omega arith)
