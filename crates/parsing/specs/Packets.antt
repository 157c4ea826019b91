-- A packet that passed, taken apart (document 01, "Messages and packets" and "Notices").
use Rattle.std.specs.Prelude.{ℕ, ◌+◌, ◌/◌, ◌%◌, Bool, cond, not, ◌||◌, List, length, drop, get_or, leb, ltb, eqb}
use Rattle.packet.specs.declared.Circuit.{Circuit}

-- "A packet is address, control, extension where present, segment"
unfoldable pub address : List ℕ → ℕ
address p = get_or p 0 0

unfoldable pub control_in : List ℕ → ℕ
control_in p = get_or p 1 0

-- "A7 A6 are [the link]; A5 extension present; A4 A3 A2 continuity index; A1 A0 priority, 3 highest"
unfoldable pub link : List ℕ → ℕ
link p = control_in p / 64

unfoldable pub extended : List ℕ → ℕ
extended p = control_in p / 32 % 2

unfoldable pub index : List ℕ → ℕ
index p = control_in p / 4 % 8

unfoldable pub priority : List ℕ → ℕ
priority p = control_in p % 4

-- where the segment begins
unfoldable pub lead : List ℕ → ℕ
lead p = 2 + extended p

unfoldable pub segment_in : List ℕ → List ℕ
segment_in p = drop (lead p) p

-- the circuit that a packet names; without an extension the extension byte counts as 0
unfoldable pub circuit_in : List ℕ → Circuit
circuit_in p = record { address = address p; extended = extended p; extension = cond (eqb (extended p) 0) 0 (get_or p 2 0) }

-- ---- system packets

-- "a descriptor (A7 to A4 block code 0 to 8, A3 to A0 information length)"
unfoldable pub descriptor : List ℕ → ℕ
descriptor p = get_or (segment_in p) 0 0

unfoldable pub code : List ℕ → ℕ
code p = descriptor p / 16

unfoldable pub information : List ℕ → List ℕ
information p = drop 1 (segment_in p)

unfoldable pub enable : List ℕ → ℕ
enable p = control_in p % 16

-- "Malformed: no segment (at FF hex, no descriptor); a segment above 16; FF hex without links 11, or 11 without FF hex; a system packet with A4 set,
-- block code above 8, or a length that differs from its bytes (an extension there is skipped)"
unfoldable pub malformed_system : List ℕ → Bool
malformed_system p =
    not (eqb (link p) 3) || eqb (control_in p / 16 % 2) 1 || ltb 8 (code p) || not (eqb (descriptor p % 16) (length (information p)))

unfoldable pub malformed : List ℕ → Bool
malformed p =
    leb (length p) (lead p) ||
    cond (eqb (address p) 0xff) (malformed_system p) (ltb 16 (length (segment_in p)) || eqb (link p) 3)
