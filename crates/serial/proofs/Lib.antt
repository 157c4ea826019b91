-- The laws of `serial`: bytes escaped, and what is written; the steps of a reader.
pub mod Escaping
pub mod Writes
pub mod Stepping
pub mod Pieces
pub mod Unescaping
pub mod Giving
pub mod ReadCalls
pub mod ReadBack
pub mod Promised
