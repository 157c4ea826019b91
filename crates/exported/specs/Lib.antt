-- The definitions of `exported`: lists of exported calls on the bytes lent to them.
pub mod Lent
pub mod Noting
pub mod Lines
pub mod Framings
