-- User bits in bytes: "Bit A0 of a byte is its lowest and is sent first", and "Bits fill bytes lowest first; spare bits of the
-- last byte are 0" (document 01, "Covered here" and "Blocks"). A bit is a Bool, a buffer the list of its bytes.
-- A stretch of bits written over a buffer's bits, from bit `at` on, is `sets bits at stretch` of the kit's lists:
-- each bit of the stretch is set in turn, and every other bit keeps its value.
use Rattle.std.specs.Prelude.{ℕ, zero, suc, ◌+◌, ◌*◌, ◌/◌, ◌%◌, ◌<◌, Bool, true, false, List, [], ◌∷◌, ◌++◌, length, take, drop, eqb}

-- a number's lowest bit
unfoldable pub odd : ℕ → Bool
odd n = eqb (n % 2) 1

-- the k lowest bits of a number, lowest first
unfoldable pub low_bits : ℕ → ℕ → List Bool
low_bits zero n = []
low_bits (suc k) n = odd n ∷ low_bits k (n / 2)

-- the eight bits of a byte, A0 first
unfoldable pub byte_bits : ℕ → List Bool
byte_bits b = low_bits 8 b

-- the bits of a buffer, in the order in which they are sent
unfoldable pub bits_of : List ℕ → List Bool
bits_of [] = []
bits_of (b ∷ bs) = byte_bits b ++ bits_of bs

-- a bit as a number
unfoldable pub bit_value : Bool → ℕ
bit_value false = 0
bit_value true = 1

-- the number whose lowest bits these are, lowest first; its other bits are 0
unfoldable pub number_of : List Bool → ℕ
number_of [] = 0
number_of (b ∷ bs) = bit_value b + 2 * number_of bs

-- the first n bytes that bits fill; bits that are lacking are 0
unfoldable pub fill_bytes : ℕ → List Bool → List ℕ
fill_bytes zero bs = []
fill_bytes (suc n) bs = number_of (take 8 bs) ∷ fill_bytes n (drop 8 bs)

-- the bytes that bits fill, the spare bits of the last one 0
unfoldable pub bytes_of : List Bool → List ℕ
bytes_of bs = fill_bytes ((length bs + 7) / 8) bs

-- each number is a byte
unfoldable pub Bytes : List ℕ → Type 0
Bytes [] = Unit {0}
Bytes (b ∷ bs) = (b < 256) × Bytes bs
