-- `scanning::scan_left` meets its contract. The loop's invariant: scanning what is left from here equals scanning all from the start, and bits leave the framing.
use Prim.Native.Nat.{◌<◌}
use mathlib.Core.Path.{◌∙◌, subst, sym}
use native.Mathlib.Omega.{arith}
use borrow.Author.Rules.{rules}
use Rattle.bits.specs.Bits.{bits_of}
use Rattle.bits.proofs.Bits.{length-bits_of, Bytes_each}
use Rattle.framing.specs.Heads.{framing_of}
use Rattle.framing.specs.Range.{LeftBy}
use Rattle.framing.proofs.RangeExact.{in-range-left}
use Rattle.scanning.proofs.Turns.{behind_read, turn_open, turn_nothing, turn_stopped, scan_goes_on, scan_stops, scan_end}
use Rattle.scanning.proofs.WordsRead.{left_step}
use Rattle.scanning.proofs.scan_left.Goals as goal
use Rattle.scanning.proofs.scan_left.Goals.{then-closes+in-Nothing, else-closes}

pub loop-at-init : goal.loop-at-init
loop-at-init c =
    let left : LeftBy c.args.framing = in-range-left c.args.framing (search rules) (Bytes_each _ (λ i. search rules)) c.requires in
    (c.args.stretch.in_order, rw c.head-head.ensures, subst LeftBy (sym c.head-head.ensures) left)

pub returns-then-at-stretch : goal.returns-then-at-stretch
returns-then-at-stretch c =
    let s = c.args.stretch in
    let h = behind_read c.behind.result s c.loop-at.at c.behind.ensures c.ahead-ahead.ensures in
    let now = framing_of c.ahead-ahead.result.head c.ahead-ahead.new.bits in
    rw c.framing.ensures at c.ended.ensures
    ∙ scan_end now (bits_of s.bytes.now) _ s.to _ c.if-at-stretch.true c.if-at-stretch.true
    ∙ h.same
    ∙ c.loop-at.invariant.1

pub returns-in_default : goal.returns-in_default
returns-in_default c =
    let s = c.args.stretch in
    let h = behind_read c.behind.result s c.loop-at.at c.behind.ensures c.ahead-ahead.ensures in
    let at = c.ahead-ahead.result.at in
    let now = framing_of c.ahead-ahead.result.head c.ahead-ahead.new.bits in
    let below : at < s.to = omega arith in
    scan_stops now (bits_of s.bytes.now) at s.to _ below (rw length-bits_of s.lent) c.bit-bit.ensures _
    (turn_stopped now _ _ at (rw c.framing-in-loop-at.ensures at c.closes.ensures) _ c.if-closes.true
    (rw c.framing-framing.ensures at c.check.ensures) _ c.in_default.not-Nothing (rw c.framing-framing.ensures at c.stopped.ensures))
    ∙ h.same
    ∙ c.loop-at.invariant.1

pub loop-at-preserved : goal.loop-at-preserved
loop-at-preserved c =
    let s = c.args.stretch in
    let h = behind_read c.behind.result s c.loop-at.at c.behind.ensures c.ahead-ahead.ensures in
    let at = c.ahead-ahead.result.at in
    let now = framing_of c.ahead-ahead.result.head c.ahead-ahead.new.bits in
    let below : at < s.to = omega arith in (
      omega arith,
      scan_goes_on now (bits_of s.bytes.now) at s.to _ below (rw length-bits_of s.lent) c.bit-bit.ensures _ c.step-head.ensures
          (elim c.if-closes.branch [
            | then-closes+in-Nothing w ↦ turn_nothing now _ _ at (rw c.framing-in-loop-at.ensures at c.closes.ensures) _ w.if-closes.true
                (rw w.framing-framing.ensures at w.check.ensures) w.in-Nothing.is
            | else-closes w ↦ turn_open now _ _ at (rw c.framing-in-loop-at.ensures at c.closes.ensures) w.if-closes.false
          ])
          ∙ h.same
          ∙ c.loop-at.invariant.1,
      subst LeftBy (sym c.step-head.ensures) (left_step _ c.bit-bit.result h.left),
    )
