-- The laws of `sender_layout`: a record that was packed is unpacked again, bytes that were unpacked are packed again, and the numbers of an answer are read back.
pub mod SenderRoundTrip
pub mod AnswersRead
pub mod Example
