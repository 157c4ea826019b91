-- The laws of `packet`: lists of circuits and their listing, messages cut into segments, packets as bytes.
pub mod Lists
pub mod CircuitLists
pub mod Segments
pub mod LongBuffers
pub mod PacketBytes
pub mod AnswerNumbers
pub mod Choices
