-- `printing::print_numbers` meets its contract: as many as there were so far.
use Rattle.std.proofs.Common.{◌≡◌}
use Rattle.printing.proofs.print_numbers.Given as goal

abbrev pub invariant-loop-number : goal.invariant-loop-number
invariant-loop-number g l = l.count ≡ l.number-index
