-- The laws of `fcs`.
pub mod Laws
pub mod Xor
pub mod Bytewise
pub mod TwoBytes
