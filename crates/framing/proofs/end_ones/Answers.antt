-- `end_ones` meets its contract. The loop's invariant: going on from here with the ones counted so far gives what counting from
-- the start gives.
use mathlib.Core.Path.{◌≡◌, ◌∙◌}
use native.Mathlib.Omega.{arith}
use borrow.Author.Rules.{rules}
use lib.ListN.{length}
use Rattle.bits.specs.Bits.{bits_of}
use Rattle.framing.proofs.Turns.{length_bits_21, end_ones_one, end_ones-zero, end_ones_end}
use Rattle.framing.proofs.end_ones.Goals as goal
use Rattle.framing.proofs.end_ones.Goals.{then-get_bit, else-get_bit}

pub loop-at-preserved : goal.loop-at-preserved
loop-at-preserved c =
    let a = c.args in
    let l = c.loop-at in
    let long : length (bits_of a.bytes.now) ≡ 168 = length_bits_21 a.bytes.now (search rules) in
    elim c.if-get_bit.branch [
      | then-get_bit w ↦ (
        omega arith,
        end_ones_one (bits_of a.bytes.now) a.n l.at l.ones _ _ (omega arith) (omega arith)
            c.get_bit.ensures
            w.if-get_bit.true
            w.ones-is
            ∙ l.invariant.1,
      )
      | else-get_bit w ↦ (
        omega arith,
        end_ones-zero (bits_of a.bytes.now) a.n l.at l.ones _ _ (omega arith) (omega arith)
            c.get_bit.ensures
            w.if-get_bit.false
            w.ones-is
            ∙ l.invariant.1,
      )
    ]

pub returns : goal.returns
returns c =
    let a = c.args in
    let long : length (bits_of a.bytes.now) ≡ 168 = length_bits_21 a.bytes.now (search rules) in
    end_ones_end (bits_of a.bytes.now) a.n c.loop-at.at _ (omega arith) ∙ c.loop-at.invariant.1
