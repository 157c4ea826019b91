-- The definitions of `parsing`: a packet that passed, taken apart, and the header in a message's first packet.
pub mod Packets
pub mod Headers
