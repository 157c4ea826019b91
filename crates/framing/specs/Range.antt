-- "A framing that no bits leave" (document 01, refusal 14) is out of range: `LeftBy` says that some bits leave a framing, and
-- `in_range` is the test by which the code decides it; `in-range-left` and `left_in_range` say that they agree.
use Rattle.std.specs.Prelude.{ℕ, ◌%◌, Bool, true, cond, not, ◌&&◌, ◌||◌, List, [], ◌∷◌, ◌≡◌, take, drop, leb, ltb, eqb}
use Rattle.bits.specs.Bits.{bits_of}
use Rattle.hdlc.specs.Stuffing.{end_ones}
use Rattle.framing.specs.declared.Framing.{Framing}
use Rattle.framing.specs.Machine.{fresh, run}

-- some bits, read from the start, leave this framing
unfoldable pub LeftBy : Framing → Type 0
LeftBy f = (bs : List Bool) × (run fresh bs ≡ f)

-- every bit is 0
unfoldable pub all_zero : List Bool → Bool
all_zero [] = true
all_zero (b ∷ bs) = not b && all_zero bs

-- how many bits `bits` holds: none where there are more than fit
unfoldable pub kept : Framing → ℕ
kept f = cond (ltb f.count 169) f.count 0

-- a zero can stand behind the last five of so many ones, zeros behind the fives before them dropped
unfoldable pub in_fives : ℕ → Bool
in_fives ones = leb 5 ones && eqb (ones % 5) 0

-- what each phase asks of ones and count
unfoldable pub phase_right : Framing → Bool
phase_right f =
    cond (eqb f.phase 0) (eqb f.ones 0 && eqb f.count 0)
    (cond (ltb f.phase 3) (eqb f.count 0)
    (cond (eqb f.phase 3) true
    (eqb f.phase 4 && (eqb f.count 169 || in_fives (end_ones (take f.count (bits_of f.bits)) 0)))))

unfoldable pub in_range : Framing → Bool
in_range f = ltb f.ones 7 && ltb f.count 170 && all_zero (drop (kept f) (bits_of f.bits)) && phase_right f
