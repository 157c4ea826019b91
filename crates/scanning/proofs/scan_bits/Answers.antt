-- `scanning::scan_bits` meets its contract. The loop's invariant: scanning what is left from here equals scanning all from the start.
use mathlib.Core.Path.{refl, ◌∙◌}
use native.Mathlib.Omega.{arith}
use Rattle.bits.specs.Bits.{bits_of}
use Rattle.bits.proofs.Bits.{length-bits_of}
use Rattle.framing.specs.Heads.{framing_of}
use Rattle.scanning.proofs.Turns.{turn_open, turn_nothing, turn_stopped, scan_goes_on, scan_stops, scan_end}
use Rattle.scanning.proofs.scan_bits.Goals as goal
use Rattle.scanning.proofs.scan_bits.Goals.{then-closes+in-Nothing, else-closes}

pub loop-at-init : goal.loop-at-init
loop-at-init c = rw c.head-head.ensures

pub returns-in_default : goal.returns-in_default
returns-in_default c =
    let s = c.args.stretch in
    let l = c.loop-at in
    scan_stops (framing_of l.head l.bits) (bits_of s.bytes.now) l.at s.to _ c.loop-at-test.true (rw length-bits_of s.lent) c.bit-bit.ensures _
    (turn_stopped (framing_of l.head l.bits) _ _ l.at (rw c.framing.ensures at c.closes.ensures) _ c.if-closes.true
    (rw c.framing-framing.ensures at c.check.ensures) _ c.in_default.not-Nothing (rw c.framing-framing.ensures at c.stopped.ensures))
    ∙ l.invariant

pub loop-at-preserved : goal.loop-at-preserved
loop-at-preserved c =
    let s = c.args.stretch in
    let l = c.loop-at in
    scan_goes_on (framing_of l.head l.bits) (bits_of s.bytes.now) l.at s.to _ c.loop-at-test.true (rw length-bits_of s.lent) c.bit-bit.ensures _ c.step-head.ensures
    (elim c.if-closes.branch [
      | then-closes+in-Nothing w ↦ turn_nothing (framing_of l.head l.bits) _ _ l.at (rw c.framing.ensures at c.closes.ensures) _ w.if-closes.true
          (rw w.framing-framing.ensures at w.check.ensures) w.in-Nothing.is
      | else-closes w ↦ turn_open (framing_of l.head l.bits) _ _ l.at (rw c.framing.ensures at c.closes.ensures) w.if-closes.false
    ])
    ∙ l.invariant

pub returns : goal.returns
returns c =
    let s = c.args.stretch in
    let l = c.loop-at in
    rw c.framing-2.ensures at c.ended.ensures ∙ scan_end (framing_of l.head l.bits) (bits_of s.bytes.now) l.at s.to s.to (omega arith) refl ∙ l.invariant
