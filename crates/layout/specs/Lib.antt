-- The definitions of `layout`: what records share in bytes.
pub mod Layout
pub mod Fits
