-- The laws of `parsing`.
pub mod Links
pub mod PacketParts
pub mod HeaderParts
