-- The frame check sequence: "The FCS is HDLC's 16-bit one: polynomial terms 16, 12, 5, 0, preset to ones, complemented, bits
-- taken lowest first, low byte sent first" (document 01, "Frames and bits"; ISO/IEC 13239).
-- The register holds the remainder of a division by the polynomial. The coefficient of the term k stands in its bit 15 - k, so
-- the coefficient that the next bit meets, that of term 15, is the lowest bit.
use Rattle.std.specs.Prelude.{ℕ, ◌+◌, ◌-◌, ◌/◌, ◌%◌, ◌^◌, Bool, true, false, List, [], ◌∷◌}
use Rattle.std.specs.Bool.{xor}
use Rattle.std.specs.Int.Bits.{bit_xor}
use Rattle.bits.specs.Bits.{odd, bits_of}

-- the polynomial's terms 12, 5 and 0; term 16 is the one that each division step takes away
unfoldable pub poly : ℕ
poly = 2 ^ (15 - 12) + 2 ^ (15 - 5) + 2 ^ (15 - 0)

-- the polynomial is taken from the remainder, or not
unfoldable pub divided : Bool → ℕ → ℕ
divided true r = bit_xor r poly
divided false r = r

-- the register after one more bit
unfoldable pub fcs_bit : ℕ → Bool → ℕ
fcs_bit r b = divided (xor (odd r) b) (r / 2)

-- the register after bits, in the order in which they are sent
unfoldable pub fcs_run : ℕ → List Bool → ℕ
fcs_run r [] = r
fcs_run r (b ∷ bs) = fcs_run (fcs_bit r b) bs

-- the register before the first bit: "preset to ones"
unfoldable pub preset : ℕ
preset = 0xffff

-- the FCS of a register: "complemented"
unfoldable pub complement : ℕ → ℕ
complement r = 0xffff - r

-- the FCS of bytes
unfoldable pub fcs_of : List ℕ → ℕ
fcs_of p = complement (fcs_run preset (bits_of p))

-- a 16-bit number as two bytes: "low byte sent first"
unfoldable pub low_first : ℕ → List ℕ
low_first n = n % 256 ∷ n / 256 ∷ []
