-- The answer of block making in bytes: "frames placed (system excluded) and bits used", and added zeros (document 02, ask 6), four bytes each.
use Rattle.std.specs.Prelude.{ℕ, List, ◌++◌}
use Rattle.layout.specs.Layout.{low_bytes, number_at}

abbrev pub block_answer_length : ℕ
block_answer_length = 12

unfoldable pub block_answer_bytes : ℕ → ℕ → ℕ → List ℕ
block_answer_bytes placed used zeros = low_bytes 4 placed ++ low_bytes 4 used ++ low_bytes 4 zeros

-- the numbers that the bytes of an answer tell
abbrev pub placed_told : List ℕ → ℕ
placed_told answer = number_at 4 answer 0

abbrev pub used_told : List ℕ → ℕ
used_told answer = number_at 4 answer 4

abbrev pub zeros_told : List ℕ → ℕ
zeros_told answer = number_at 4 answer 8
