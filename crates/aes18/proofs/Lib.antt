-- The laws of `aes18`: what its functions' proofs cite.
pub mod Numbers
pub mod Clipping
pub mod SenderOutcomes
pub mod ReceiverOutcomes
pub mod LineReading
