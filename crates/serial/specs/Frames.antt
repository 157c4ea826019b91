-- Frames in any bytes, and the packets that they give (document 02, ask 3): the line is split at its flags.
use Rattle.std.specs.Prelude.{ℕ, Option, None, Some, Bool, true, false, cond, ◌&&◌, ◌||◌, drop}
use mathlib.Core.List.{List, [], ◌∷◌, map, flatten, drop_last}
use Rattle.hdlc.specs.Bodies.{fcs_right, packet}
use Rattle.serial.specs.Octets.{is_flag, is_escape, toggled, fits}

-- some byte is a flag; a flag is one "even behind an escape"
unfoldable pub has_flag : List ℕ → Bool
has_flag [] = false
has_flag (b ∷ bs) = is_flag b || has_flag bs

-- a line split at its flags: what stands before the first, between each and the next, and behind the last
unfoldable pub onto_first : ℕ → List (List ℕ) → List (List ℕ)
onto_first b [] = []
onto_first b (p ∷ ps) = (b ∷ p) ∷ ps

unfoldable pub pieces : List ℕ → List (List ℕ)
pieces [] = [] ∷ []
pieces (b ∷ bs) = cond (is_flag b) ([] ∷ pieces bs) (onto_first b (pieces bs))

-- what stands between two flags: "Bytes before the first flag are skipped", and those behind the last are in no frame yet
unfoldable pub between : List ℕ → List (List ℕ)
between line = drop_last (drop 1 (pieces line))

unfoldable pub onto_bytes : ℕ → Option (List ℕ) → Option (List ℕ)
onto_bytes b None = None
onto_bytes b (Some bytes) = Some (b ∷ bytes)

-- the bytes without their escapes, where `true` says that an escape stands right before them; none where an escape "is followed by a flag", which ends them
unfoldable pub unescaped_from : List ℕ → Bool → Option (List ℕ)
unescaped_from [] true = None
unescaped_from [] false = Some []
unescaped_from (b ∷ bs) true = onto_bytes (toggled b) (unescaped_from bs false)
unescaped_from (b ∷ bs) false = cond (is_escape b) (unescaped_from bs true) (onto_bytes b (unescaped_from bs false))

unfoldable pub unescaped : List ℕ → Option (List ℕ)
unescaped bs = unescaped_from bs false

-- packet and FCS are not dropped: "A reader drops a frame whose FCS is wrong, whose packet is outside 2 to 19 bytes"
unfoldable pub passing : List ℕ → Bool
passing bytes = fcs_right bytes && fits (packet bytes)

-- the packet of a frame, where it is not dropped: one or none
unfoldable pub given : Option (List ℕ) → List (List ℕ)
given None = []
given (Some bytes) = cond (passing bytes) (packet bytes ∷ []) []

-- the packets in a line
unfoldable pub packets_in : List ℕ → List (List ℕ)
packets_in line = flatten (map (λ piece. given (unescaped piece)) (between line))
