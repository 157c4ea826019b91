-- The definitions of `totals_layout`: the record of pass totals in bytes, and the notice in a reading call's answer.
pub mod TotalsBytes
pub mod NoticeSaid
pub mod Fits
