-- The laws of `totals`, and what the record says after any list of notices.
pub mod CountsNotices
