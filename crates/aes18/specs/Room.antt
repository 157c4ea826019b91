-- The answer where a record or an answer is shorter than it has to be: no refusal of document 01 has this number.
use Rattle.std.specs.Prelude.{ℕ}

unfoldable pub no_room : ℕ
no_room = 255
