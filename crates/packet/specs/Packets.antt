-- Packets as bytes (document 01, "Messages and packets" and "Blocks").
use Rattle.std.specs.Prelude.{ℕ, ◌+◌, ◌*◌, cond, List, [], ◌∷◌, ◌++◌, length, eqb}
use Rattle.packet.specs.declared.Circuit.{Circuit}
use Rattle.packet.specs.declared.Link.{Link}
use Rattle.packet.specs.declared.Link.TheVariants.{Between, Last, First, System}

-- the number of a link: "A7 A6 are 10 first or only, 01 last of several, 00 between", 11 of a system packet
unfoldable pub link_number : Link → ℕ
link_number Between = 0
link_number Last = 1
link_number First = 2
link_number System = 3

-- "Control: A7 A6 are [the link]; A5 extension present; A4 A3 A2 continuity index; A1 A0 priority, 3 highest"
unfoldable pub control : ℕ → ℕ → ℕ → ℕ → ℕ
control link extended index priority = 64 * link + 32 * extended + 4 * index + priority

-- the extension byte, where one is present
unfoldable pub extension_of : Circuit → List ℕ
extension_of c = cond (eqb c.extended 0) [] (c.extension ∷ [])

-- "A packet is address, control, extension where present, segment"
unfoldable pub packet_of : Circuit → ℕ → ℕ → ℕ → List ℕ → List ℕ
packet_of c link index priority segment = c.address ∷ control link c.extended index priority ∷ extension_of c ++ segment

-- "A system packet is FF hex, control 11 0 0 and four enable bits (A3 for priority 3 to A0 for priority 0), a descriptor (A7 to A4 block code
-- 0 to 8, A3 to A0 information length), 0 to 15 information bytes"
unfoldable pub system_packet : ℕ → ℕ → List ℕ → List ℕ
system_packet enable code information = 0xff ∷ (64 * 3 + enable) ∷ (16 * code + length information) ∷ information
