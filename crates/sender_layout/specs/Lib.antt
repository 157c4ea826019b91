-- The definitions of `sender_layout`: a sender's record and the answer of block making in bytes.
pub mod SenderBytes
pub mod Fits
pub mod Answers
