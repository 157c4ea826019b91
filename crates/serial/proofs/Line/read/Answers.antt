-- `Line::read` meets its contract. The loop's invariant: reading what is left from here equals reading all from the start.
use mathlib.Core.Path.{◌∙◌}
use native.Mathlib.Omega.{arith}
use borrow.Author.Tests.{eq-eqb, ne_eqb}
use Rattle.serial.specs.Octets.{is_flag}
use Rattle.serial.specs.Machine.{ended, reading}
use Rattle.serial.proofs.Stepping.{read_plain, read_none, read-packet, read_end}
use Rattle.serial.proofs.Line.read.Goals as goal
use Rattle.serial.proofs.Line.read.Goals.{then-byte-eq-FLAG+in_default, else-byte-eq-FLAG}

pub returns-in-Some : goal.returns-in-Some
unfolding is_flag reading
returns-in-Some c =
    let l = c.loop-at in
    read-packet l.after c.args.line.now l.at c.loop-at-test.true _ (eq-eqb _ _ c.if-byte-eq-FLAG.true) c.packet.ensures _ c.in-Some.is _ c.opened.ensures
    ∙ l.invariant

pub loop-at-preserved : goal.loop-at-preserved
unfolding is_flag
loop-at-preserved c =
    let l = c.loop-at in
    let line = c.args.line.now in
    let below = c.loop-at-test.true in
    elim c.if-byte-eq-FLAG.branch [
      | then-byte-eq-FLAG+in_default w ↦
          read_none l.after line l.at below _ (eq-eqb _ _ w.if-byte-eq-FLAG.true) w.packet.ensures _ w.in_default.is c.step.ensures
      | else-byte-eq-FLAG w ↦ read_plain l.after line l.at below _ (ne_eqb _ _ w.if-byte-eq-FLAG.false) c.step.ensures
    ]
    ∙ l.invariant

pub returns : goal.returns
unfolding ended reading
returns c =
    let l = c.loop-at in
    read_end l.after c.args.line.now l.at (omega arith) ∙ l.invariant
