-- What the functions on a stuffed byte, and on stuffed bits put with a bit writer, say.
use Rattle.std.specs.Prelude.{ℕ, ◌+◌, ◌*◌, ◌/◌, ◌^◌, ◌≤◌, ◌<◌, Bool, List, ◌≡◌, length}
use Rattle.std.specs.Int.Bits.{bit_and}
use Rattle.std.proofs.lemmas.List.Edits.{sets}
use Rattle.bits.specs.Bits.{low_bits, byte_bits}
use Rattle.bits.specs.Writer.{PartHeld, next_bit, with_held}
use Rattle.bits.specs.declared.writer.BitWriter.{BitWriter}
use Rattle.hdlc.specs.Stuffing.{stuff_from}
use Rattle.hdlc.specs.declared.chunks.Chunk.{Chunk}

-- where two ones, and where five ones in a row begin among a number's bits
abbrev pub two_ones : ℕ → ℕ
two_ones x = bit_and x (x / 2)

abbrev pub five_ones : ℕ → ℕ
five_ones x = bit_and (bit_and (two_ones x) (two_ones x / 4)) (x / 16)

-- the chunk is the byte's bits stuffed, with the ones free before them
pub record StuffedByte (free byte : ℕ) (c : Chunk) : Type 0 where
  pub bits : low_bits c.len c.value ≡ stuff_from (byte_bits byte) free
  pub fits : c.value < 2 ^ c.len
  pub least : 8 ≤ c.len
  pub most : c.len ≤ 10

-- the bits have room in the buffer from the writer's next bit on
pub record WriterRoom (buffer : List ℕ) (writer : BitWriter) (bits : List Bool) : Type 0 where
  pub held : PartHeld writer
  pub within : next_bit writer + length bits ≤ 8 * length buffer

-- the bits are put with the writer, and `next` is the writer behind them
pub record WriterPut (old : List ℕ) (writer : BitWriter) (bits : List Bool) (new : List ℕ) (next : BitWriter) : Type 0 where
  pub held : PartHeld next
  pub behind : next_bit next ≡ next_bit writer + length bits
  pub buffer : with_held new next ≡ sets (with_held old writer) (next_bit writer) bits
