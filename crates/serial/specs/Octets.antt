-- Octets of the line: "flag 7E hex, escape 7D hex, an escaped byte exclusive-ored with 20 hex, the same FCS" (document 02, ask 3; RFC 1662, sections 3.1
-- and 4.2).
use Rattle.std.specs.Prelude.{ℕ, Bool, cond, ◌&&◌, ◌||◌, length, leb, eqb}
use mathlib.Core.List.{List, [], ◌∷◌, ◌++◌, map, flatten}
use Rattle.std.specs.Int.Bits.{bit_xor}
use Rattle.hdlc.specs.Frames.{with_fcs}

abbrev pub flag : ℕ
flag = 0x7e

abbrev pub escape : ℕ
escape = 0x7d

unfoldable pub is_flag : ℕ → Bool
is_flag b = eqb b flag

unfoldable pub is_escape : ℕ → Bool
is_escape b = eqb b escape

-- the byte behind an escape, and again the byte that it stands for
unfoldable pub toggled : ℕ → ℕ
toggled b = bit_xor b 0x20

-- a byte as it is written: "escaping 7E and 7D only"
unfoldable pub escaped : ℕ → List ℕ
escaped b = cond (is_flag b || is_escape b) (escape ∷ toggled b ∷ []) (b ∷ [])

unfoldable pub escaped_bytes : List ℕ → List ℕ
escaped_bytes bytes = flatten (map escaped bytes)

-- a packet's frame: "between flags of its own"; the FCS is that of the packet, and its bytes are escaped as any others
unfoldable pub line_frame : List ℕ → List ℕ
line_frame p = flag ∷ escaped_bytes (with_fcs p) ++ flag ∷ []

-- the written line of packets
unfoldable pub line_of : List (List ℕ) → List ℕ
line_of ps = flatten (map line_frame ps)

-- a packet "of 2 to 19 bytes"
unfoldable pub fits : List ℕ → Bool
fits p = leb 2 (length p) && leb (length p) 19
