-- Flags and bodies in any bits, and what a body gives (document 01, "Frames and bits" and "Notices").
use Rattle.std.specs.Prelude.{ℕ, suc, ◌+◌, ◌-◌, ◌*◌, ◌%◌, Bool, true, false, cond, ◌&&◌, ◌||◌, List, [], ◌∷◌, length, take, drop, get_or, replicate, leb, ltb, eqb}
use Rattle.std.specs.Bool.{beq}
use Rattle.bits.specs.Bits.{bytes_of}
use Rattle.fcs.specs.Fcs.{fcs_of}
use Rattle.hdlc.specs.Stuffing.{unstuff, end_ones}
use Rattle.hdlc.specs.Frames.{flag}

-- the bits begin with the pattern
unfoldable pub starts_with : List Bool → List Bool → Bool
starts_with [] bs = true
starts_with (p ∷ ps) [] = false
starts_with (p ∷ ps) (b ∷ bs) = beq p b && starts_with ps bs

-- some bits in a row are the pattern
unfoldable pub holds : List Bool → List Bool → Bool
holds p [] = starts_with p []
holds p (b ∷ bs) = starts_with p (b ∷ bs) || holds p bs

-- "a flag is any eight bits in a row that are 01111110; two flags may share their 0":
-- the numbers of the flags' first bits, in order, where the first bit here has number n
unfoldable pub flags_from : List Bool → ℕ → List ℕ
flags_from [] n = []
flags_from (b ∷ bs) n = let later = flags_from bs (suc n) in cond (starts_with flag (b ∷ bs)) (n ∷ later) later

unfoldable pub flags : List Bool → List ℕ
flags bs = flags_from bs 0

-- a body: the numbers of the first bits of the flags before and behind it, and its bits
pub record Body : Type 0 where
  pub opening : ℕ
  pub closing : ℕ
  pub bits : List Bool

-- "A body is the bits between one flag and the next"; between flags that share their 0 there are none
unfoldable pub bodies_after : List Bool → ℕ → List ℕ → List Body
bodies_after bs i [] = []
bodies_after bs i (j ∷ js) =
    let later = bodies_after bs j js in
    cond (leb (i + 8) j) (record { opening = i; closing = j; bits = take (j - (i + 8)) (drop (i + 8) bs) } ∷ later) later

unfoldable pub between_flags : List Bool → List ℕ → List Body
between_flags bs [] = []
between_flags bs (i ∷ is) = bodies_after bs i is

-- the bodies in bits, in order
unfoldable pub bodies : List Bool → List Body
bodies bs = between_flags bs (flags bs)

-- "Seven ones in a row void it"
unfoldable pub void : List Bool → Bool
void body = holds (replicate 7 true) body

-- the last two bytes, low byte first, are the FCS of those before them
unfoldable pub fcs_right : List ℕ → Bool
fcs_right bytes =
    let n = length bytes - 2 in
    eqb (get_or bytes n 0 + 256 * get_or bytes (n + 1) 0) (fcs_of (take n bytes))

-- "A body passes if it does not end in five ones, unstuffs to 4 to 21 whole bytes, and its FCS is right":
-- of the number of ones that end the body, and its unstuffed bits
unfoldable pub passing : ℕ → List Bool → Bool
passing ones bs =
    ltb ones 5 && leb 32 (length bs) && leb (length bs) 168 && eqb (length bs % 8) 0 && fcs_right (bytes_of bs)

-- what a body gives: a packet; "one that does not, and unstuffs to 32 bits or more, gives Spoilt. Others, void ones too, give none"
pub data Judged : Type 0 where
  passes : List ℕ → Judged
  spoilt : Judged
  nothing : Judged

-- the bytes without the FCS
unfoldable pub packet : List ℕ → List ℕ
packet bytes = take (length bytes - 2) bytes

-- what the unstuffed bits give, with the number of ones that end the body
unfoldable pub judge_bits : ℕ → List Bool → Judged
judge_bits ones bs = cond (passing ones bs) (passes (packet (bytes_of bs))) (cond (leb 32 (length bs)) spoilt nothing)

-- what a body gives
unfoldable pub judge : List Bool → Judged
judge body = cond (void body) nothing (judge_bits (end_ones body 0) (unstuff body))
