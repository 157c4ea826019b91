-- The definitions of `sender`: filling and block making.
pub mod Blocks
pub mod BlockCalls
