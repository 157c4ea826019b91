-- The definitions of `picking`: which frame is next, and what placing it changes.
pub mod Picking
pub mod Picked
