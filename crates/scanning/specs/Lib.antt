-- The definitions of `scanning`: what is read at once.
pub mod Lacking
pub mod Stretch
pub mod Ahead
