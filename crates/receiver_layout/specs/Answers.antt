-- The answer of reading in bytes: 8 bytes of the notice, 8 of the bits read; what does not apply is 0.
use Rattle.std.specs.Prelude.{ℕ, List, ◌∷◌, ◌++◌, replicate}
use Rattle.notices.specs.declared.Fate.{Fate}
use Rattle.notices.specs.declared.Fate.TheVariants.{Copy, Begun, Held, Whole, Orphan, Wrong}
use Rattle.notices.specs.declared.Notice.{Notice}
use Rattle.notices.specs.declared.Notice.TheVariants.{End, Spoilt, Malformed, System, Elsewhere, Circuit}
use Rattle.layout.specs.Layout.{low_bytes, number_at}

abbrev pub read_answer_length : ℕ
read_answer_length = 16

-- what became of a circuit's packet, and the length of a whole message
unfoldable pub fate_number : Fate → ℕ
fate_number Copy = 0
fate_number Begun = 1
fate_number Held = 2
fate_number (Whole n) = 3
fate_number Orphan = 4
fate_number Wrong = 5

unfoldable pub whole_length : Fate → ℕ
whole_length Copy = 0
whole_length Begun = 0
whole_length Held = 0
whole_length (Whole n) = n
whole_length Orphan = 0
whole_length Wrong = 0

-- a notice's number, and 7 bytes of what it tells
unfoldable pub notice_bytes : Notice → List ℕ
notice_bytes End = 0 ∷ replicate 7 0
notice_bytes Spoilt = 1 ∷ replicate 7 0
notice_bytes Malformed = 2 ∷ replicate 7 0
notice_bytes (System enable code n) = 3 ∷ enable ∷ code ∷ low_bytes 1 n ++ replicate 4 0
notice_bytes Elsewhere = 4 ∷ replicate 7 0
notice_bytes (Circuit c loss fate) = 5 ∷ low_bytes 1 c ++ loss ∷ fate_number fate ∷ low_bytes 2 (whole_length fate) ++ replicate 2 0

unfoldable pub read_answer_bytes : Notice → ℕ → List ℕ
read_answer_bytes notice bits = notice_bytes notice ++ low_bytes 8 bits

-- the bits read that the bytes of an answer tell
abbrev pub bits_told : List ℕ → ℕ
bits_told answer = number_at 8 answer 8
