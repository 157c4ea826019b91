-- `writing::put_bytes` meets its contract. The loop's invariant: with the bytes that are left, the output and the place behind it are those asked for.
use Prim.Native.Nat.{◌+◌, ◌*◌, ◌≤◌}
use mathlib.Core.Path.{◌≡◌}
use lib.ListN.{length, drop}
use lib.Seq.{sets}
use Rattle.serial.specs.Octets.{escaped_bytes}
use Rattle.serial.proofs.writing.put_bytes.Given as goal

abbrev pub invariant-loop-byte : goal.invariant-loop-byte
invariant-loop-byte l =
    (l.behind ≤ l.at + 2 * l.byte-index)
    × (l.behind + length (escaped_bytes (drop l.byte-index l.bytes)) ≡ l.at + length (escaped_bytes l.bytes))
    × (sets l.output l.behind (escaped_bytes (drop l.byte-index l.bytes)) ≡ sets l.initial.output l.at (escaped_bytes l.bytes))
