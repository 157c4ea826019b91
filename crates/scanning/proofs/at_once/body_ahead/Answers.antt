-- `scanning::at_once::body_ahead` meets its contract. The loop's invariant: what is read of the body.
use Prim.Native.Nat.{◌≤◌, ◌<◌}
use native.Mathlib.Nat.{mod-lt}
use native.Mathlib.Omega.{arith}
use lib.Pow.{pow_pos}
use Rattle.bits.specs.Bits.{bits_of}
use Rattle.bits.proofs.Bits.{length-bits_of}
use Rattle.words.proofs.Pieces.{until_word, until_least}
use Rattle.framing.specs.Heads.{framing_of}
use Rattle.framing.proofs.Stepping.{plain_le}
use Rattle.scanning.proofs.WordsRead.{body_is, reading_start, reading-zero, reading_piece, reading_end, held-most}
use Rattle.scanning.proofs.at_once.body_ahead.Goals as goal

pub kept-first-requires : goal.kept-first-requires
kept-first-requires c = (body_is (framing_of c.args.head c.args.bits.now) c.requires.2 c.requires.0).most

pub gather-gathered-requires : goal.gather-gathered-requires
gather-gathered-requires c =
    let le : c.plain_zeros-zeros.result ≤ 1 = plain_le c.args.head.phase _ c.plain_zeros-zeros.ensures in
    let b = body_is (framing_of c.args.head c.args.bits.now) c.requires.2 c.requires.0 in
    let k = c.kept-first.ensures in (
      k.1,
      (k.0 b.kept b.counted b.stored b.zeros).small,
      omega (arith, k.2),
      omega (arith, le, c.requires.1),
      c.held_bits.ensures.1,
    )

pub loop-phase-init : goal.loop-phase-init
loop-phase-init c =
    let s = c.args.stretch in
    reading_start (framing_of c.args.head c.args.bits.now) (bits_of s.bytes.now) s.from s.to _ _ c.kept-first.result _ _ _ c.requires.2 c.requires.0 c.requires.1 s.in_order
    c.plain_zeros-zeros.ensures c.kept-first.ensures.0 c.held_bits.ensures.0 c.gather-gathered.ensures.0 c.gather-gathered.ensures.1

pub loop-phase-preserved-then-ones-eq5 : goal.loop-phase-preserved-then-ones-eq5
loop-phase-preserved-then-ones-eq5 c =
    let on = c.goes_on.ensures c.loop-phase-test.true in
    reading-zero c.loop-phase.invariant c.if-ones-eq5.true on.0 (rw length-bits_of c.args.stretch.lent) (on.1 c.if-ones-eq5.true)

pub lowest-requires : goal.lowest-requires
lowest-requires c = rw c.until_five-len.ensures (until_word _ _)

pub gather-gathered-requires-in-loop-phase : goal.gather-gathered-requires-in-loop-phase
gather-gathered-requires-in-loop-phase c =
    let r = c.loop-phase.invariant in (
      r.part,
      r.gathered.small,
      omega (arith, r.gathered.all, r.most, r.read.most, c.ranges.stretch),
      rw c.until_five-len.ensures (until_word _ _),
      rw c.lowest.ensures (mod-lt c.at-word.result.bits (pow_pos c.until_five-len.result)),
    )

pub phase_behind-phase-requires : goal.phase_behind-phase-requires
phase_behind-phase-requires c =
    (rw c.until_five-len.ensures (until_word _ _), omega (arith, c.loop-phase.invariant.few, c.if-ones-eq5.false))

pub overflow_add-at-in-loop-phase : goal.overflow_add-at-in-loop-phase
overflow_add-at-in-loop-phase c =
    let piece-most : c.until_five-len.result ≤ 56 = rw c.until_five-len.ensures (until_word _ _) in
    record { fits = omega (arith, (c.goes_on.ensures c.loop-phase-test.true).0) }

pub loop-phase-smaller : goal.loop-phase-smaller
loop-phase-smaller c =
    let piece-most : c.until_five-len.result ≤ 56 = rw c.until_five-len.ensures (until_word _ _) in
    let some : 0 < c.until_five-len.result = rw c.until_five-len.ensures (until_least _ _) in
    omega (arith, (c.goes_on.ensures c.loop-phase-test.true).0)

pub loop-phase-preserved : goal.loop-phase-preserved
loop-phase-preserved c =
    reading_piece c.loop-phase.invariant c.at-word.result.bits c.until_five-len.result _ _ _ _ (omega (arith, c.loop-phase.invariant.few, c.if-ones-eq5.false))
    (c.goes_on.ensures c.loop-phase-test.true).0 (rw length-bits_of c.args.stretch.lent) c.at-word.ensures c.until_five-len.ensures
    (rw c.lowest.ensures at c.gather-gathered-in-loop-phase.ensures.0)
    c.gather-gathered-in-loop-phase.ensures.1
    c.phase_behind-phase.ensures c.ones_behind-ones.ensures.0 c.ones_behind-ones.ensures.1

pub settled-count-requires : goal.settled-count-requires
settled-count-requires c =
    let r = c.loop-phase.invariant in
    (r.part, omega (arith, r.few, plain_le c.loop-phase.phase _ c.plain_zeros.ensures), held-most r _ c.plain_zeros.ensures)

pub returns : goal.returns
returns c = reading_end c.loop-phase.invariant _ _ _ c.plain_zeros.ensures c.settled-count.ensures
