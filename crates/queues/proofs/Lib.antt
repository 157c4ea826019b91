-- The theorems of `queues`: what the sender's calls mean.
pub mod Queues
pub mod Stands
pub mod StandsPick
pub mod StandsOffer
pub mod StandsBlock
pub mod StandsCalls
pub mod Numbers
pub mod InRangeStands
pub mod BlocksAreQueues
pub mod AtCircuit
pub mod FirstInFirstOut
pub mod IndexCounts
pub mod EnableInForce
pub mod PlacedEnabled
pub mod LeftCounts
pub mod ZerosCounted
pub mod Example
