-- Bits written over those of bytes.
use Rattle.std.specs.Prelude.{ℕ, Bool, List, length}
use Rattle.std.proofs.lemmas.List.Edits.{sets}
use Rattle.bits.specs.Bits.{bits_of, fill_bytes}

-- the bytes with bits written over theirs, from number at on
abbrev pub overwritten : List ℕ → ℕ → List Bool → List ℕ
overwritten bytes at bits = fill_bytes (length bytes) (sets (bits_of bytes) at bits)
