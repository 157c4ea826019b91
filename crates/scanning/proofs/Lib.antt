-- The laws of `scanning`.
pub mod Stretches
pub mod WordsRead
pub mod Turns
