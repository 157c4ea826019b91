-- The definitions of `framing`: the machine that finds bodies bit by bit, what it closes, its range, and the scan.
pub mod Machine
pub mod Closings
pub mod Range
pub mod Scanning
pub mod Heads
pub mod Overwritten
