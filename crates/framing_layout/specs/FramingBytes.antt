-- A framing in 24 bytes, alone or inside a receiver's record, and the answer of reading with it.
use Rattle.std.specs.Prelude.{ℕ, ◌+◌, List, ◌∷◌, ◌++◌, replicate}
use Rattle.std.proofs.Math.Seq.{slice}
use Rattle.framing.specs.declared.Framing.{Framing}
use Rattle.framing.specs.declared.Check.{Check}
use Rattle.framing.specs.declared.Check.TheVariants.{Packet, Spoilt, Nothing}
use Rattle.layout.specs.Layout.{low_bytes, byte_at}

abbrev pub framing_length : ℕ
framing_length = 24

-- phase, ones, count, and 21 bytes of bits
unfoldable pub framing_bytes : Framing → List ℕ
framing_bytes f = f.phase ∷ f.ones ∷ f.count ∷ f.bits

-- the framing whose bytes begin with byte `at`
unfoldable pub framing_in : List ℕ → ℕ → Framing
framing_in bytes at =
    record { phase = byte_at bytes at; ones = byte_at bytes (at + 1); count = byte_at bytes (at + 2); bits = slice (at + 3) (at + 24) bytes }

-- the answer of reading, 16 bytes: what the read stopped at, the packet's length, 0 where there is none, and how many bits are read
abbrev pub framing_answer_length : ℕ
framing_answer_length = 16

-- what a read stopped at: End 0, Spoilt 1, Packet 2
unfoldable pub stop_number : Check → ℕ
stop_number Nothing = 0
stop_number Spoilt = 1
stop_number (Packet n) = 2

-- the length of its packet
unfoldable pub length_given : Check → ℕ
length_given Nothing = 0
length_given Spoilt = 0
length_given (Packet n) = n

unfoldable pub framing_answer_bytes : Check → ℕ → List ℕ
framing_answer_bytes check bits = stop_number check ∷ low_bytes 1 (length_given check) ++ replicate 6 0 ++ low_bytes 8 bits
