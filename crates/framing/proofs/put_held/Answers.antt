-- `put_held` meets its contract: the second run is written behind the first.
use mathlib.Core.Bool.{true, false}
use borrow.Author.Rules.{rules}
use Rattle.bits.proofs.Bits.{Bytes_each}
use Rattle.framing.proofs.Stepping.{overwritten_runs}
use Rattle.framing.proofs.put_held.Goals as goal

pub shape_of-bytes : goal.shape_of-bytes
shape_of-bytes c = search rules

pub returns : goal.returns
returns c =
    let a = c.args in
    overwritten_runs a.bytes.now _ _ a.at a.zeros a.ones false true (shape_of-bytes c)
    (Bytes_each _ (λ i. search rules))
    c.put_run.ensures
    c.put_run-2.ensures
