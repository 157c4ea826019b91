-- The definitions of `totals`: a circuit's figures and their totals over a list of notices, and the record that is brought up to date with each notice.
pub mod Figures
pub mod Totals
