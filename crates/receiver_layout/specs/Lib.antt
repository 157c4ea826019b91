-- The definitions of `receiver_layout`: a receiver's record and the answer of reading in bytes.
pub mod ReceiverBytes
pub mod Fits
pub mod Answers
