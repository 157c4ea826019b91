-- The laws of `receiver_layout`: a record that was packed is unpacked again, bytes that were unpacked are packed again, and the numbers of an answer are read back.
pub mod ReceiverRoundTrip
pub mod AnswersRead
pub mod Example
