-- The laws of `sender`: what the proofs of its functions cite, and what its blocks hold.
pub mod Filling
pub mod UsedBits
pub mod OpeningBits
pub mod FillTurn
pub mod BlockRefusals
pub mod InForce
pub mod BlockBits
pub mod UsedAtMostU
pub mod BlockSteps
pub mod MadeNumbers
