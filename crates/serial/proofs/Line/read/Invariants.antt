-- `Line::read` meets its contract. The loop's invariant: reading what is left from here equals reading all from the start.
use mathlib.Core.Path.{◌≡◌}
use lib.ListN.{drop}
use Rattle.serial.specs.Machine.{read_on}
use Rattle.serial.proofs.Line.read.Given as goal

abbrev pub invariant-loop-at : goal.invariant-loop-at
invariant-loop-at l =
    read_on l.after l.at (drop l.at l.line) ≡ read_on l.initial.after 0 l.line
