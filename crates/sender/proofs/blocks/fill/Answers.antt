-- `sender::blocks::fill` meets its contract. The loop's invariant: to fill what is left from here is to fill all from the start. The measure is
-- the copies that wait.
use mathlib.Core.Path.{sym}
use native.Mathlib.Omega.{arith}
use Rattle.offering.proofs.Ranges.{in_range-given, slot_in_range-wide}
use Rattle.picking.proofs.PickingLaws.{pick_waits, pick_lt}
use Rattle.sender.proofs.Filling.{waiting-served}
use Rattle.sender.proofs.FillTurn.{ToFill_start, ToFill-none, ToFill-past, ToFill_room, zeros_within, ToFill-step}
use Rattle.sender.proofs.blocks.fill.Goals as goal

pub loop-circuit-init : goal.loop-circuit-init
loop-circuit-init c = ToFill_start _ _ _ _ _ _ c.requires.sender_value c.requires.zeros_le_at.0 c.requires.zeros_le_at.1

pub pick-requires : goal.pick-requires
pick-requires c = in_range-given _ _ c.loop-circuit.invariant.range

pub fits-requires-clause-circuit_lt_count : goal.fits-requires-clause-circuit_lt_count
fits-requires-clause-circuit_lt_count c = (pick_waits _ _ _ (sym c.in-Some.ensures)).count

pub fits-requires-clause-circuit_value : goal.fits-requires-clause-circuit_value
fits-requires-clause-circuit_value c = (pick_waits _ _ _ (sym c.in-Some.ensures)).pending

pub put_next-framed-requires : goal.put_next-framed-requires
put_next-framed-requires c =
    let f = pick_waits _ _ _ (sym c.in-Some.ensures) in
    record {
      sender_value = c.loop-circuit.invariant.range;
      circuit_lt_count = f.count;
      circuit_value = f.pending;
      long_enough = c.requires.long_enough;
      room =
          ToFill_room c.loop-circuit.invariant (sym c.in-Some.ensures) (sym c.if-not-fits.ensures)
          c.requires.zeros_le_at.2 c.requires.zeros_le_at.3;
    }

pub overflow_add-zeros : goal.overflow_add-zeros
overflow_add-zeros c =
    omega (arith, zeros_within c.loop-circuit.invariant (sym c.in-Some.ensures) (sym c.if-not-fits.ensures) c.put_next-framed.ensures)

pub serve-requires : goal.serve-requires
serve-requires c =
    let f = pick_waits _ _ _ (sym c.in-Some.ensures) in (
      pick_lt _ _ _ _ c.loop-circuit.invariant.range (sym c.in-Some.ensures),
      slot_in_range-wide _ _ _ c.loop-circuit.invariant.range f.count,
      f.pending,
    )

pub loop-circuit-smaller : goal.loop-circuit-smaller
loop-circuit-smaller c =
    rw c.serve.ensures (omega (arith, waiting-served _ _ _ _ c.loop-circuit.invariant.range (sym c.in-Some.ensures)))

pub loop-circuit-preserved : goal.loop-circuit-preserved
loop-circuit-preserved c =
    rw c.serve.ensures
    (ToFill-step c.loop-circuit.invariant (sym c.in-Some.ensures) (sym c.if-not-fits.ensures) c.put_next-framed.ensures c.put_next-framed.auto.buf)

pub returns-in_default : goal.returns-in_default
returns-in_default c = ToFill-none c.loop-circuit.invariant (sym c.in_default.ensures)

pub returns-then-not-fits : goal.returns-then-not-fits
returns-then-not-fits c = ToFill-past c.loop-circuit.invariant (sym c.in-Some.ensures) (sym c.if-not-fits.ensures)
