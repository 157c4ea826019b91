-- What a reading of the serial line has in it fits the place for a packet.
use mathlib.Core.Path.{◌≡◌}
use Prim.Native.Nat.{ℕ, ◌≤◌}
use mathlib.Core.List.{List}
use Rattle.std.specs.Prelude.{unwrap_or}
use Rattle.layout.specs.Layout.{packet_length}
use Rattle.serial.specs.declared.Line.{Line}
use Rattle.serial.specs.declared.Reading.{Reading}
use Rattle.serial.specs.Machine.{reading, length_given}
use Rattle.serial.proofs.Stepping.{reading-length}

pub read_fits : (r : Reading) (l : Line) (bytes : List ℕ) (n : ℕ) → r ≡ reading l bytes → n ≡ unwrap_or r.packet 0 → n ≤ packet_length
unfolding length_given
read_fits r l bytes n e f = rw (f, e) (reading-length l bytes)
