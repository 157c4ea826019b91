-- When bytes lack a stretch of bits.
use Rattle.std.specs.Prelude.{ℕ, ◌*◌, Bool, ◌||◌, List, length, ltb}

-- "from above to, or to past the bytes lent" (document 01, refusal 15)
abbrev pub lacking : List ℕ → ℕ → ℕ → Bool
lacking bytes from to = ltb to from || ltb (8 * length bytes) to
