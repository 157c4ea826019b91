-- The definitions of `writing`: the packet of a slot with its parts, and the next frame of a circuit.
pub mod PacketParts
pub mod NextFrame
