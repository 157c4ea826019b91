-- The laws of `bits`: stretches written into lists, the bits of bytes, one bit of a byte or of a buffer, the bits that a bit writer holds,
-- and tests that are computed at every number below a bound.
pub mod Lists
pub mod Bits
pub mod BitInByte
pub mod Tests
pub mod Each
pub mod Computed
pub mod Fields
pub mod HeldBits
