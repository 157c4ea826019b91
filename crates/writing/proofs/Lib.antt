-- The laws of `writing`: what a packet consists of, and the length of its frame.
pub mod PacketWriting
pub mod FrameLength
