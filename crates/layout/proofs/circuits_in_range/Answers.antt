-- `layout::circuits_in_range` meets its contract.
use mathlib.Core.Path.{◌≡◌}
use borrow.Author.Tests.{le-leb}
use Rattle.packet.proofs.AnswerNumbers.{is_ok-answer_of}
use Rattle.layout.specs.Layout.{byte_at, circuits_in}
use Rattle.layout.proofs.Parts.{circuits_behind}
use Rattle.layout.proofs.circuits_in_range.Goals as goal

pub returns : goal.returns
unfolding byte_at circuits_in
returns c =
    let few = rw c.from-count.ensures at c.if-count-gt4.false in
    rw (le-leb _ _ few, c.is_ok.ensures.value, c.check.ensures, is_ok-answer_of, c.from-count.ensures, circuits_behind c.args.bytes.now c.requires few)
