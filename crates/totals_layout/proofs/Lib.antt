-- The laws of `totals_layout`: the record and its bytes determine each other, and an answer's bytes and its notice.
pub mod TotalsRoundTrip
pub mod BeginsWith
pub mod NoticeReadBack
pub mod Example
