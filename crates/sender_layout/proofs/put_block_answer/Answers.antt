-- `sender_layout::put_block_answer` meets its contract: the three numbers are written one behind the other.
use mathlib.Core.List.{◌++◌}
use Rattle.layout.specs.Layout.{low_bytes}
use Rattle.sender_layout.specs.Answers.{block_answer_bytes}
use Rattle.layout.proofs.Parts.{length-low_bytes}
use Rattle.layout.proofs.Copies.{two_written}
use Rattle.sender_layout.proofs.AnswersRead.{length_placed_used}
use Rattle.sender_layout.proofs.put_block_answer.Goals as goal

pub returns : goal.returns
unfolding block_answer_bytes
returns c =
    let b = c.args.block in
    let placed = low_bytes 4 b.placed in
    let used = low_bytes 4 b.used in
    two_written _ 0 8 (placed ++ used) (low_bytes 4 b.zeros) (length_placed_used b.placed b.used)
    (two_written _ 0 4 placed used (length-low_bytes 4 b.placed) c.put_number.ensures c.put_number-2.ensures) c.put_number-3.ensures
