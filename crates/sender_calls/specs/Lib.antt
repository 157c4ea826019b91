-- The definitions of `sender_calls`: what offers and block calls leave in the bytes of a record and of an answer.
pub mod Calls
