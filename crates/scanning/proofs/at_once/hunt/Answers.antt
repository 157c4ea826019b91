-- `scanning::at_once::hunt` meets its contract. The loop's invariant: what was read so far left the framing behind so many ones.
use Prim.Native.Nat.{◌≤◌, ◌<◌}
use native.Mathlib.Omega.{arith}
use Rattle.bits.specs.Bits.{bits_of}
use Rattle.bits.proofs.Bits.{length-bits_of}
use Rattle.words.proofs.Pieces.{until_word, until_least}
use Rattle.scanning.proofs.Stretches.{ahead_none}
use Rattle.scanning.proofs.WordsRead.{ahead-outside, ahead-outside-zero}
use Rattle.scanning.proofs.at_once.hunt.Goals as goal

pub loop-ones-init : goal.loop-ones-init
loop-ones-init c =
    (c.requires.0, ahead_none _ _ _ _ c.requires.1 c.args.stretch.in_order)

pub loop-ones-preserved-then-ones-eq5 : goal.loop-ones-preserved-then-ones-eq5
loop-ones-preserved-then-ones-eq5 c =
    let s = c.args.stretch in
    let l = c.loop-ones in
    let on = c.goes_on.ensures c.loop-ones-test.true in (
      omega arith,
      ahead-outside-zero (bits_of s.bytes.now) c.args.behind s.from l.at s.to l.ones l.invariant.1 c.if-ones-eq5.true on.0
          (rw length-bits_of s.lent) (on.1 c.if-ones-eq5.true),
    )

pub overflow_add-at-in-loop-ones : goal.overflow_add-at-in-loop-ones
overflow_add-at-in-loop-ones c =
    let most : c.until_five-n.result ≤ 56 = rw c.until_five-n.ensures (until_word _ _) in
    record { fits = omega (arith, (c.goes_on.ensures c.loop-ones-test.true).0) }

pub loop-ones-smaller : goal.loop-ones-smaller
loop-ones-smaller c =
    let most : c.until_five-n.result ≤ 56 = rw c.until_five-n.ensures (until_word _ _) in
    let some : 0 < c.until_five-n.result = rw c.until_five-n.ensures (until_least _ _) in
    omega (arith, (c.goes_on.ensures c.loop-ones-test.true).0)

pub loop-ones-preserved : goal.loop-ones-preserved
loop-ones-preserved c =
    let s = c.args.stretch in
    let l = c.loop-ones in (
      c.ones_behind-ones.ensures.1,
      ahead-outside (bits_of s.bytes.now) c.args.behind s.from l.at s.to l.ones c.at-word.result.bits c.until_five-n.result _ l.invariant.1
          (omega arith) (c.goes_on.ensures c.loop-ones-test.true).0 (rw length-bits_of s.lent) c.at-word.ensures c.until_five-n.ensures
          c.ones_behind-ones.ensures.0,
    )

pub returns : goal.returns
returns c = c.loop-ones.invariant.1
