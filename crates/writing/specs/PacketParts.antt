-- The packet of the first copy waiting at a circuit, of the circuit, its slot and its message (document 01, "Messages and packets").
use Rattle.std.specs.Prelude.{ℕ, cond, List, [], ◌∷◌, ◌++◌, eqb, take, drop}
use Rattle.packet.specs.declared.Circuit.{Circuit}
use Rattle.packet.specs.Messages.{header, packets, part_of, segment, link_of}
use Rattle.packet.specs.Packets.{control, extension_of, packet_of}
use Rattle.offering.specs.declared.Slot.{Slot}

-- the packet
unfoldable pub packet_at : Circuit → Slot → List ℕ → List ℕ
packet_at c t message =
    packet_of c (link_of t.place (packets t.length)) t.index t.priority (segment message t.place)

-- its control byte
unfoldable pub control_at : Circuit → Slot → ℕ
control_at c t = control (link_of t.place (packets t.length)) c.extended t.index t.priority

-- its address, its control byte, and the extension where present
unfoldable pub address_at : Circuit → Slot → List ℕ
address_at c t = c.address ∷ control_at c t ∷ extension_of c

-- the header, in a first packet
unfoldable pub header_at : Slot → List ℕ
header_at t = cond (eqb t.place 0) (header t.length) []

-- what stands before the message's bytes in it
unfoldable pub lead_of : Circuit → Slot → List ℕ
lead_of c t = address_at c t ++ header_at t

-- the part of the message in it
unfoldable pub part_at : Slot → List ℕ → List ℕ
part_at t message = take (part_of t.length t.place).len (drop (part_of t.length t.place).from message)
