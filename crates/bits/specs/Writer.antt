-- What the functions of a bit writer say.
use Rattle.std.specs.Prelude.{ℕ, ◌+◌, ◌*◌, ◌^◌, ◌<◌, Bool, List}
use Rattle.std.proofs.lemmas.List.Edits.{sets}
use Rattle.bits.specs.Bits.{low_bits, bits_of}
use Rattle.bits.specs.declared.writer.BitWriter.{BitWriter}

-- fewer bits are held than make a byte, and no others
pub record PartHeld (w : BitWriter) : Type 0 where
  pub few : w.count < 8
  pub only : w.bits < 2 ^ w.count

-- the number of the next bit
abbrev pub next_bit : BitWriter → ℕ
next_bit w = 8 * w.byte + w.count

-- the buffer's bits, with the held ones where they belong
unfoldable pub with_held : List ℕ → BitWriter → List Bool
with_held buffer w = sets (bits_of buffer) (8 * w.byte) (low_bits w.count w.bits)
