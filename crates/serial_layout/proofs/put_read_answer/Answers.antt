-- `serial_layout::put_read_answer` meets its contract: the two numbers are written one behind the other.
use Rattle.layout.specs.Layout.{low_bytes}
use Rattle.layout.proofs.Copies.{two_written}
use Rattle.layout.proofs.Parts.{length-low_bytes}
use Rattle.serial_layout.specs.LineBytes.{line_read_bytes}
use Rattle.serial_layout.proofs.put_read_answer.Goals as goal

pub returns : goal.returns
unfolding line_read_bytes
returns c =
    let a = c.args in
    two_written _ 0 8 (low_bytes 8 a.packet) (low_bytes 8 a.read) (length-low_bytes 8 a.packet) c.put_number.ensures c.put_number-2.ensures
