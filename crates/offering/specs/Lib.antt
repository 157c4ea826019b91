-- The definitions of `offering`: the sender's record, its range and the store; an offer, and one of a long message.
pub mod Record
pub mod Offering
