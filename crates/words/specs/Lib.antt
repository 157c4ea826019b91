-- The definitions of `words`: runs of ones in a stretch of bits, and bits gathered in bytes.
pub mod Runs
pub mod Gathering
