-- The definitions of `receiver_calls`: what reading leaves in the bytes of a record and of an answer.
pub mod Reading
