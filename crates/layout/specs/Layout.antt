-- What the layouts share: numbers of several bytes, the circuits of a record and the place for a packet.
use Rattle.std.specs.Prelude.{ℕ, zero, suc, ◌+◌, ◌*◌, ◌/◌, ◌%◌, List, [], ◌∷◌, ◌++◌, get_or}
use Rattle.packet.specs.declared.Circuit.{Circuit}
use Rattle.packet.specs.declared.Circuits.{Circuits}
use Rattle.packet.specs.Circuits.{no_circuit}

-- a number in k bytes, lowest first
unfoldable pub low_bytes : ℕ → ℕ → List ℕ
low_bytes zero n = []
low_bytes (suc k) n = n % 256 ∷ low_bytes k (n / 256)

-- the byte with a number; none is read past the end
unfoldable pub byte_at : List ℕ → ℕ → ℕ
byte_at bytes at = get_or bytes at 0

-- the number in k bytes, lowest first
unfoldable pub number_at : ℕ → List ℕ → ℕ → ℕ
number_at zero bytes at = 0
number_at (suc k) bytes at = byte_at bytes at + 256 * number_at k bytes (suc at)

-- a circuit is laid out as in a circuit list: "three bytes each: address, 1 or 0 for extension present, extension" (document 01)
unfoldable pub circuit_bytes : Circuit → List ℕ
circuit_bytes c = c.address ∷ c.extended ∷ c.extension ∷ []

unfoldable pub circuit_from : List ℕ → ℕ → Circuit
circuit_from bytes at = record { address = byte_at bytes at; extended = byte_at bytes (at + 1); extension = byte_at bytes (at + 2) }

-- the circuits of a record, 13 bytes: how many, and four places
unfoldable pub circuits_bytes : Circuits → List ℕ
circuits_bytes cs =
    cs.count ∷ circuit_bytes (get_or cs.list 0 no_circuit) ++ circuit_bytes (get_or cs.list 1 no_circuit) ++
    circuit_bytes (get_or cs.list 2 no_circuit) ++ circuit_bytes (get_or cs.list 3 no_circuit)

unfoldable pub circuits_in : List ℕ → Circuits
circuits_in bytes =
    record {
      count = byte_at bytes 0;
      list = circuit_from bytes 1 ∷ circuit_from bytes 4 ∷ circuit_from bytes 7 ∷ circuit_from bytes 10 ∷ [];
    }

-- the place for a packet has room for the longest
abbrev pub packet_length : ℕ
packet_length = 19
