-- The definitions of `queues`: queues of waiting copies, what calls do to them, lists of calls, for which queues record and store stand, the enable
-- bits in force, the packets still to go, and what block calls answer.
pub mod Queues
pub mod Effects
pub mod Calls
pub mod Stands
pub mod Sent
pub mod EnableBits
pub mod PacketsLeft
pub mod AddedZeros
