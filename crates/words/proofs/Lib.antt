-- The laws of `words`.
pub mod Numbers
pub mod Runs
pub mod Pieces
pub mod GatheredBits
