-- The laws of `receiver`.
pub mod InRange
pub mod ReadingCalls
pub mod ReadLaws
pub mod ToldInRange
pub mod ReadsTell
pub mod ReadTellsFirst
