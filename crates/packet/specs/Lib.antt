-- The definitions of `packet`: circuits and their listing, messages cut into segments, packets as bytes, the store's regions and the long buffer.
pub mod Lists
pub mod Circuits
pub mod Messages
pub mod Packets
pub mod Answers
pub mod Stores
