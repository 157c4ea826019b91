-- The laws of `offering`: records in range, and offers; packets still to go by value.
pub mod Messages
pub mod Ranges
pub mod Offers
pub mod Example
