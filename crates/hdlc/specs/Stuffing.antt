-- Zero bit insertion, over bits in the order in which they are sent: "a 0 after every five ones, also when the five end the
-- frame", and "Unstuffing drops the 0 after each five ones" (document 01, "Frames and bits").
-- Both count down. Stuffing tells a run of ones by `free`, how many more ones may come before the one that gets a 0 behind it: 4 behind a 0, and 0
-- where the next one is the fifth.
use Rattle.std.specs.Prelude.{ℕ, zero, suc, Bool, true, false, List, [], ◌∷◌}

-- the bits stuffed, where `free` more ones may come before the one behind which a 0 is put
unfoldable pub stuff_from : List Bool → ℕ → List Bool
stuff_from [] free = []
stuff_from (false ∷ bs) free = false ∷ stuff_from bs 4
stuff_from (true ∷ bs) (suc free) = true ∷ stuff_from bs free
stuff_from (true ∷ bs) zero = true ∷ false ∷ stuff_from bs 4

-- how many ones are free behind bits, for going on from the run of ones that they left
unfoldable pub free_after : List Bool → ℕ → ℕ
free_after [] free = free
free_after (false ∷ bs) free = free_after bs 4
free_after (true ∷ bs) (suc free) = free_after bs free
free_after (true ∷ bs) zero = free_after bs 4

-- the bits stuffed from the start of a frame
unfoldable pub stuff : List Bool → List Bool
stuff bs = stuff_from bs 4

-- "its count of added zeros" (document 02, ask 6): the zeros that `stuff_from` puts, counted where it puts them
unfoldable pub added_from : List Bool → ℕ → ℕ
added_from [] free = 0
added_from (false ∷ bs) free = added_from bs 4
added_from (true ∷ bs) (suc free) = added_from bs free
added_from (true ∷ bs) zero = suc (added_from bs 4)

-- those added from the start of a frame
unfoldable pub added : List Bool → ℕ
added bs = added_from bs 4

-- the bits unstuffed, where `due` more ones make five, behind which a 0 is dropped; a sixth one, which only a void body has, is kept
unfoldable pub unstuff_from : List Bool → ℕ → List Bool
unstuff_from [] due = []
unstuff_from (true ∷ bs) (suc due) = true ∷ unstuff_from bs due
unstuff_from (true ∷ bs) zero = true ∷ unstuff_from bs zero
unstuff_from (false ∷ bs) (suc due) = false ∷ unstuff_from bs 5
unstuff_from (false ∷ bs) zero = unstuff_from bs 5

-- a body unstuffed
unfoldable pub unstuff : List Bool → List Bool
unstuff bs = unstuff_from bs 5

-- how many ones end the bits, where n ones stand before them
unfoldable pub end_ones : List Bool → ℕ → ℕ
end_ones [] n = n
end_ones (true ∷ bs) n = end_ones bs (suc n)
end_ones (false ∷ bs) n = end_ones bs 0
