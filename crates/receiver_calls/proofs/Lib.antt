-- The laws of `receiver_calls`: a record changed in the bytes in which it lies, and reading there.
pub mod InPlace
pub mod ReadingLaws
