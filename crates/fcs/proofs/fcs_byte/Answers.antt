-- `fcs::fcs_byte` meets its contract: it computes the register after a byte at once. Assumes nothing.
use native.Mathlib.Omega.{arith}
use Rattle.fcs.proofs.Bytewise.{folded, table_entry, fcs_byte_at_once}
use Rattle.fcs.proofs.fcs_byte.Goals as goal

pub returns : goal.returns
unfolding folded table_entry
returns c = fcs_byte_at_once c.args.register c.args.byte (omega arith) (omega arith)
