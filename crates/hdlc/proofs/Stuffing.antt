-- What zero bit insertion keeps: stuffed bits do not end in five ones and hold no six in a row, unstuffing gives the bits
-- back, n bits grow by at most n / 5, and bits may be stuffed and unstuffed piece by piece.
use Prim.Native.Nat.{ℕ, zero, suc, ◌+◌, ◌-◌, ◌*◌, ◌/◌, ◌≤◌}
use native.Mathlib.Omega.{arith}
use mathlib.Core.Bool.{Bool, true, false}
use mathlib.Core.List.{List, [], ◌∷◌, ◌++◌}
use mathlib.Core.Path.{◌≡◌, refl, ap}
use lib.ListN.{length, replicate}
use lib.Dec.{ltb}
use borrow.Author.Tests.{lt-ltb}
use Rattle.hdlc.specs.Stuffing.{stuff_from, free_after, stuff, unstuff_from, unstuff, end_ones}
use Rattle.hdlc.specs.Bodies.{holds}
use Rattle.hdlc.proofs.NoSix.{NoSix, NoSix_holds}

-- the ones free behind bits and those that end them, stuffed, make four, where n ones stand before them
pub free_after-end_ones : (bs : List Bool) (free n : ℕ) → n + free ≡ 4 → end_ones (stuff_from bs free) n + free_after bs free ≡ 4
unfolding stuff_from end_ones free_after
free_after-end_ones [] free n e = e
free_after-end_ones (false ∷ bs) free n e = free_after-end_ones bs 4 0 refl
free_after-end_ones (true ∷ bs) zero n e = free_after-end_ones bs 4 0 refl
free_after-end_ones (true ∷ bs) (suc free) n e = free_after-end_ones bs free (suc n) (omega arith)

-- a stuffed body "does not end in five" ones
pub stuff_no_five_end : (bs : List Bool) → ltb (end_ones (stuff bs) 0) 5 ≡ true
unfolding stuff
stuff_no_five_end bs = lt-ltb (end_ones (stuff_from bs 4) 0) 5 (omega (arith, free_after-end_ones bs 4 0 refl))

-- unstuffing gives the bits back
unstuff_from-stuff_from : (bs : List Bool) (free : ℕ) → unstuff_from (stuff_from bs free) (suc free) ≡ bs
unfolding stuff_from unstuff_from
unstuff_from-stuff_from [] free = refl
unstuff_from-stuff_from (false ∷ bs) free = ap (◌∷◌ false) (unstuff_from-stuff_from bs 4)
unstuff_from-stuff_from (true ∷ bs) zero = ap (◌∷◌ true) (unstuff_from-stuff_from bs 4)
unstuff_from-stuff_from (true ∷ bs) (suc free) = ap (◌∷◌ true) (unstuff_from-stuff_from bs free)

pub unstuff-stuff : (bs : List Bool) → unstuff (stuff bs) ≡ bs
unfolding stuff unstuff
unstuff-stuff bs = unstuff_from-stuff_from bs 4

-- bits stuffed piece by piece
pub stuff_from_append : (a b : List Bool) (free : ℕ) →
    stuff_from (a ++ b) free ≡ stuff_from a free ++ stuff_from b (free_after a free)
unfolding stuff_from free_after
stuff_from_append [] b free = refl
stuff_from_append (false ∷ a) b free = ap (◌∷◌ false) (stuff_from_append a b 4)
stuff_from_append (true ∷ a) b zero = ap (λ s. true ∷ false ∷ s) (stuff_from_append a b 4)
stuff_from_append (true ∷ a) b (suc free) = ap (◌∷◌ true) (stuff_from_append a b free)

pub free_after_append : (a b : List Bool) (free : ℕ) → free_after (a ++ b) free ≡ free_after b (free_after a free)
unfolding free_after
free_after_append [] b free = refl
free_after_append (false ∷ a) b free = free_after_append a b 4
free_after_append (true ∷ a) b zero = free_after_append a b 4
free_after_append (true ∷ a) b (suc free) = free_after_append a b free

-- "a stuffed body holds no six ones in a row"
NoSix_stuff_from : (bs : List Bool) (free : ℕ) → NoSix (stuff_from bs free) (suc free)
unfolding stuff_from NoSix
NoSix_stuff_from [] free = tt
NoSix_stuff_from (false ∷ bs) free = NoSix_stuff_from bs 4
NoSix_stuff_from (true ∷ bs) zero = NoSix_stuff_from bs 4
NoSix_stuff_from (true ∷ bs) (suc free) = NoSix_stuff_from bs free

pub NoSix_stuff : (bs : List Bool) → NoSix (stuff bs) 5
unfolding stuff
NoSix_stuff bs = NoSix_stuff_from bs 4

pub stuff_no_six : (bs : List Bool) → holds (replicate 6 true) (stuff bs) ≡ false
stuff_no_six bs = NoSix_holds (stuff bs) (NoSix_stuff bs)

-- "n bits grow by at most n / 5 rounded down"
length-stuff_from : (bs : List Bool) (free : ℕ) → free ≤ 4 → 5 * length (stuff_from bs free) + free ≤ 6 * length bs + 4
unfolding stuff_from
length-stuff_from [] free h = omega arith
length-stuff_from (false ∷ bs) free h = omega (arith, length-stuff_from bs 4 (omega arith))
length-stuff_from (true ∷ bs) zero h = omega (arith, length-stuff_from bs 4 (omega arith))
length-stuff_from (true ∷ bs) (suc free) h = omega (arith, length-stuff_from bs free (omega arith))

pub length-stuff : (bs : List Bool) → length (stuff bs) ≤ length bs + length bs / 5
unfolding stuff
length-stuff bs = omega (arith, length-stuff_from bs 4 (omega arith))

-- no bit is lost, and where at most four ones are free, at most four are behind
pub stuff_from-least : (bs : List Bool) (free : ℕ) → length bs ≤ length (stuff_from bs free)
unfolding stuff_from
stuff_from-least [] free = omega arith
stuff_from-least (false ∷ bs) free = omega (arith, stuff_from-least bs 4)
stuff_from-least (true ∷ bs) zero = omega (arith, stuff_from-least bs 4)
stuff_from-least (true ∷ bs) (suc free) = omega (arith, stuff_from-least bs free)

pub free_after_le : (bs : List Bool) (free : ℕ) → free ≤ 4 → free_after bs free ≤ 4
unfolding free_after
free_after_le [] free h = h
free_after_le (false ∷ bs) free h = free_after_le bs 4 (omega arith)
free_after_le (true ∷ bs) zero h = free_after_le bs 4 (omega arith)
free_after_le (true ∷ bs) (suc free) h = free_after_le bs free (omega arith)

-- how many more ones make five behind bits, for unstuffing on from there
unfoldable pub due_after : List Bool → ℕ → ℕ
due_after [] due = due
due_after (true ∷ bs) (suc due) = due_after bs due
due_after (true ∷ bs) zero = due_after bs zero
due_after (false ∷ bs) due = due_after bs 5

-- bits unstuffed piece by piece
pub unstuff_from_append : (a b : List Bool) (due : ℕ) →
    unstuff_from (a ++ b) due ≡ unstuff_from a due ++ unstuff_from b (due_after a due)
unfolding unstuff_from due_after
unstuff_from_append [] b due = refl
unstuff_from_append (true ∷ a) b zero = ap (◌∷◌ true) (unstuff_from_append a b zero)
unstuff_from_append (true ∷ a) b (suc due) = ap (◌∷◌ true) (unstuff_from_append a b due)
unstuff_from_append (false ∷ a) b zero = unstuff_from_append a b 5
unstuff_from_append (false ∷ a) b (suc due) = ap (◌∷◌ false) (unstuff_from_append a b 5)

-- the ones that end the bits are no more due
due_after_end_ones_from : (b : List Bool) (due n : ℕ) → due ≡ 5 - n → due_after b due ≡ 5 - end_ones b n
unfolding due_after end_ones
due_after_end_ones_from [] due n e = e
due_after_end_ones_from (true ∷ b) zero n e = due_after_end_ones_from b zero (suc n) (omega arith)
due_after_end_ones_from (true ∷ b) (suc due) n e = due_after_end_ones_from b due (suc n) (omega arith)
due_after_end_ones_from (false ∷ b) due n e = due_after_end_ones_from b 5 0 refl

pub due_after_end_ones : (b : List Bool) → due_after b 5 ≡ 5 - end_ones b 0
due_after_end_ones b = due_after_end_ones_from b 5 0 refl
