-- `hdlc::chunks::Free::plain_two` meets its contract: where its number has no five ones, stuffing puts no 0 into the two bytes.
use native.Mathlib.Omega.{arith}
use mathlib.Core.Path.{sym, ◌∙◌}
use borrow.Author.Tests.{eqb-true}
use Rattle.hdlc.proofs.FiveOnes.{two_plain}
use Rattle.hdlc.proofs.chunks.Free.plain_two.Goals as goal

pub returns : goal.returns
returns c t =
    let free = c.args.self in
    two_plain free.ones c.args.low c.args.high free.few (omega arith) (omega arith) (sym c.five_ones.ensures ∙ eqb-true _ _ t)
