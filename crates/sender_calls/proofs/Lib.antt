-- The laws of `sender_calls`: slots read and written where the record lies, and what offers and block calls leave there.
pub mod SlotsInPlace
pub mod OffersInPlace
pub mod BlocksInPlace
