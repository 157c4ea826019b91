-- A stretch of lent bits.
use Rattle.std.specs.Prelude.{Bool, List}
use Rattle.std.proofs.Math.Seq.{slice}
use Rattle.bits.specs.Bits.{bits_of}
use Rattle.scanning.specs.declared.stretch.Stretch.{Stretch}

-- its bits, in the order in which they are sent
abbrev pub bits_in : Stretch → List Bool
bits_in s = slice s.from s.to (bits_of s.bytes.now)
