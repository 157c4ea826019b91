-- The numbers in an answer's bytes are those that were put there, where they have room: what C reads of them is what the call told.
use mathlib.Core.Path.{◌≡◌, refl, ◌∙◌}
use Prim.Native.Nat.{ℕ, ◌^◌, ◌<◌}
use mathlib.Core.List.{List, ◌++◌, append_assoc}
use lib.ListN.{length, length-append}
use Rattle.notices.specs.declared.Notice.{Notice}
use Rattle.notices.specs.declared.Notice.TheVariants.{End, Spoilt, Malformed, System, Elsewhere, Circuit}
use Rattle.layout.specs.Layout.{low_bytes}
use Rattle.receiver_layout.specs.Answers.{notice_bytes, read_answer_length, read_answer_bytes, bits_told}
use Rattle.layout.proofs.Parts.{length-low_bytes, number_unpacks, number_after}

pub length-notice_bytes : (t : Notice) → length (notice_bytes t) ≡ 8
unfolding notice_bytes low_bytes
length-notice_bytes End = refl
length-notice_bytes Spoilt = refl
length-notice_bytes Malformed = refl
length-notice_bytes (System enable code n) = refl
length-notice_bytes Elsewhere = refl
length-notice_bytes (Circuit c loss fate) = refl

pub length-read_answer_bytes : (t : Notice) (bits : ℕ) → length (read_answer_bytes t bits) ≡ read_answer_length
unfolding read_answer_bytes
length-read_answer_bytes t bits = rw (length-append, length-notice_bytes t, length-low_bytes 8 bits)

pub read_answer_unpacks : (t : Notice) (bits : ℕ) → bits < 2 ^ 64 → (rest : List ℕ) → bits_told (read_answer_bytes t bits ++ rest) ≡ bits
unfolding read_answer_bytes
read_answer_unpacks t bits h rest =
    rw append_assoc (number_after 8 (notice_bytes t) (low_bytes 8 bits ++ rest) 8 (length-notice_bytes t) ∙ number_unpacks 8 bits h rest)
