-- `serial::serial_line` meets its contract: the serial line is as document 02 says. Assumes nothing.
use Rattle.serial.proofs.Promised.{serial-line}
use Rattle.serial.proofs.serial_line.Goals as goal

pub returns : goal.returns
returns c = serial-line
