-- The laws of `framing_layout`: a framing and its bytes determine each other, and what a reading call answers and leaves.
pub mod FramingRoundTrip
pub mod ReadingLaws
