-- The laws of `notices`.
pub mod Ranges
pub mod SlotsInRange
pub mod FateLaws
pub mod LongFates
pub mod StoreLaws
pub mod LongParts
pub mod Hearings
pub mod NoticesInRange
