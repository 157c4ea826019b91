-- A part of a list, copied; parts written one behind the other; a number's bytes written one by one.
use mathlib.Core.Path.{◌≡◌, sym, ◌∙◌}
use Prim.Native.Nat.{ℕ, suc, ◌+◌, ◌-◌, ◌*◌, ◌/◌, ◌%◌, ◌≤◌, ◌<◌}
use native.Mathlib.Numerals.{add-one}
use native.Mathlib.Omega.{arith}
use mathlib.Core.List.{List, [], ◌++◌, append_assoc, append-nil}
use lib.ListN.{length, take, drop, set, length-append, length-drop, drop_of_length-le}
use lib.Seq.{sets, sets-eq, slice, drop-drop, length-take-le, take-add, drop_at}
use Rattle.bits.proofs.Lists.{sets_append, sets_behind}
use Rattle.layout.specs.Layout.{low_bytes}
use Rattle.layout.proofs.Parts.{length-low_bytes}

-- n elements from f on
pub part_slice : {A : Type 0} (l : List A) (f n : ℕ) → f + n ≤ length l → take n (drop f l) ≡ slice f (f + n) l
part_slice l f n inside =
    let front : length (take f l) ≡ f = length-take-le f l (omega arith) in
    rw (take-add, drop_at (take f l) (take n (drop f l)) f front)

-- the same, copied over a list of n
pub copied_part : {A : Type 0} (l d : List A) (f n : ℕ) → f + n ≤ length l → length d ≡ n → sets d 0 (take n (drop f l)) ≡ slice f (f + n) l
copied_part l d f n inside long =
    let part : length (take n (drop f l)) ≡ n = length-take-le n (drop f l) (omega (arith, length-drop f l)) in
    let fits : length (take n (drop f l)) ≤ length d = omega arith in
    let over : length d ≤ length (take n (drop f l)) = omega arith in
    sets_behind [] d (take n (drop f l)) fits
    ∙ rw (drop_of_length-le d over, append-nil) (part_slice l f n inside)

-- ---- parts written one behind the other

-- two, of which the first has n elements
pub two_written : {A : Type 0} (l : List A) (at n : ℕ) (a b : List A) → length a ≡ n → {one two : List A}
    → one ≡ sets l at a → two ≡ sets one (at + n) b → two ≡ sets l at (a ++ b)
two_written l at n a b x e f = rw (f, e, sets_append l at a b, x)

-- four of n elements each, which are laid out from four values
pub four_written : {T A : Type 0} (laid : T → List A) (n : ℕ) → ((t : T) → length (laid t) ≡ n) → (l : List A) (at : ℕ) (a b c d : T)
    → {one two three four : List A} → one ≡ sets l at (laid a) → two ≡ sets one (at + n) (laid b)
    → three ≡ sets two (at + 2 * n) (laid c) → four ≡ sets three (at + 3 * n) (laid d)
    → four ≡ sets l at (laid a ++ laid b ++ laid c ++ laid d)
four_written laid n long l at a b c d e f g h =
    let two : length (laid a ++ laid b) ≡ 2 * n = rw length-append (omega (arith, long a, long b)) in
    let three : length (laid a ++ laid b ++ laid c) ≡ 3 * n = rw (length-append, two) (omega (arith, long c)) in
    two_written l at (3 * n) (laid a ++ laid b ++ laid c) (laid d) three
    (two_written l at (2 * n) (laid a ++ laid b) (laid c) two (two_written l at n (laid a) (laid b) (long a) e f) g) h

-- ---- a number's bytes

-- the rest of them, when the lowest is written
pub rest_written : (l : List ℕ) (k width n : ℕ) → k < width
    → sets (set l k (n % 256)) (k + 1) (low_bytes (width - (k + 1)) (n / 256)) ≡ sets l k (low_bytes (width - k) n)
unfolding low_bytes
rest_written l k width n h =
    let more : width - k ≡ suc (width - (k + 1)) = omega arith in
    rw (more, add-one)

-- all of them are written to a part of a list, and none is left
pub all_written : (l part : List ℕ) (at k width n left : ℕ) → at + width ≤ length l → length (take (at + width - at) (drop at l)) ≤ k
    → sets part k (low_bytes (width - k) left) ≡ sets (take (at + width - at) (drop at l)) 0 (low_bytes width n)
    → take at l ++ (part ++ drop (at + width - at) (drop at l)) ≡ sets l at (low_bytes width n)
unfolding low_bytes
all_written l part at k width n left inside h e =
    let v = low_bytes width n in
    let place = take (at + width - at) (drop at l) in
    let long : length v ≡ width = length-low_bytes width n in
    let behind : at + (at + width - at) ≡ at + length v = omega arith in
    let room : length place ≡ width = length-take-le (at + width - at) (drop at l) (omega (arith, length-drop at l)) ∙ omega arith in
    let none : width - k ≡ 0 = omega arith in
    let over : sets place 0 v ≡ v = sets_behind [] place v (omega arith) ∙ rw (drop_of_length-le place {i = length v} (omega arith), append-nil) in
    let written : part ≡ sets place 0 v = rw none at e in
    rw (written, over, drop-drop, behind, ← append_assoc) (sym (sets-eq v l at (omega arith)))
