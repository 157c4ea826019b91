-- The record of a serial line's reader in 24 bytes, and the answers of writing and reading. All bytes are some record's: where a byte stands for yes or no,
-- every number but 0 is yes.
use Rattle.std.specs.Prelude.{ℕ, Bool, not, List, ◌∷◌, ◌++◌, eqb}
use Rattle.std.proofs.Math.Seq.{slice}
use Rattle.bits.specs.Bits.{bit_value}
use Rattle.serial.specs.declared.Line.{Line}
use Rattle.layout.specs.Layout.{low_bytes, byte_at}

abbrev pub line_length : ℕ
line_length = 24

-- inside, escape, count, and 21 bytes
unfoldable pub line_bytes : Line → List ℕ
line_bytes l = bit_value l.inside ∷ bit_value l.escape ∷ l.count ∷ l.bytes

unfoldable pub yes : ℕ → Bool
yes b = not (eqb b 0)

unfoldable pub line_in : List ℕ → Line
line_in bytes =
    record { inside = yes (byte_at bytes 0); escape = yes (byte_at bytes 1); count = byte_at bytes 2; bytes = slice 3 24 bytes }

-- the answer of writing, 8 bytes: how many bytes are written
abbrev pub line_write_length : ℕ
line_write_length = 8

unfoldable pub line_write_bytes : ℕ → List ℕ
line_write_bytes written = low_bytes 8 written

-- the answer of reading, 16 bytes: the packet's length, 0 where there is none, and how many bytes are read
abbrev pub line_read_length : ℕ
line_read_length = 16

unfoldable pub line_read_bytes : ℕ → ℕ → List ℕ
line_read_bytes packet read = low_bytes 8 packet ++ low_bytes 8 read
