-- The definitions of `link`: demand 3, pass totals over it, what both say where no long message is offered, and channels on which less is taken as given.
pub mod Demand3
pub mod Demand3Totals
pub mod WithoutLong
pub mod Channels
