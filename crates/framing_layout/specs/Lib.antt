-- The definitions of `framing_layout`: a framing and the answer of reading with it in bytes, and what a reading call answers and leaves.
pub mod FramingBytes
pub mod Reading
