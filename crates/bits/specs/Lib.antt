-- The definitions of `bits`: user bits in bytes, and a bit writer.
pub mod Bits
pub mod Writer
