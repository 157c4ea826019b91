-- The definitions of `notices`: a circuit's slot and its range, what becomes of a packet, what it writes, and what it leaves and tells.
pub mod Slots
pub mod Fates
pub mod LongFates
pub mod Stores
pub mod Heard
