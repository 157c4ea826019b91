-- `sender::blocks::fill` meets its contract. The loop's invariant: to fill what is left from here is to fill all from the start. The measure is
-- the copies that wait.
use Rattle.packet.specs.Stores.{stores_of}
use Rattle.sender.specs.Blocks.{waiting}
use Rattle.sender.proofs.FillTurn.{ToFill}
use Rattle.sender.proofs.blocks.fill.Given as goal

abbrev pub invariant-loop-circuit : goal.invariant-loop-circuit
invariant-loop-circuit l =
    ToFill l.initial.buf l.initial.sender (stores_of l.lent) (record { at = l.initial.used; zeros = l.initial.zeros }) l.enable l.u l.buf l.sender l.used l.placed l.zeros

abbrev pub decreases-loop-circuit : goal.decreases-loop-circuit
decreases-loop-circuit l = waiting l.sender
