-- `serial_layout::put_line` meets its contract: the bytes are written behind the three numbers.
use mathlib.Core.Path.{◌≡◌}
use native.Mathlib.Omega.{arith}
use lib.ListN.{length}
use Rattle.bits.specs.Bits.{bit_value}
use Rattle.serial_layout.specs.LineBytes.{line_bytes}
use borrow.Author.Rules.{rules}
use Rattle.serial_layout.proofs.put_line.Goals as goal

pub returns : goal.returns
unfolding line_bytes bit_value
returns c = rw (c.copy_at.ensures, c.copy_in.ensures)

pub copy_at-requires : goal.copy_at-requires
copy_at-requires c =
    let long : length c.args.line.bytes ≡ 21 = search rules in
    omega arith
