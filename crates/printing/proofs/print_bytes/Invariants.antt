-- `printing::print_bytes` meets its contract: two digits for each byte so far.
use Rattle.std.proofs.Common.{◌≡◌, ◌*◌}
use Rattle.printing.proofs.print_bytes.Given as goal

abbrev pub invariant-loop-byte : goal.invariant-loop-byte
invariant-loop-byte g l = l.digits ≡ 2 * l.byte-index
