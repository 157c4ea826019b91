-- The definitions of `hdlc`: stuffing, frames, flags and bodies, what a writer's contract says, bytes stuffed in two parts, and the zeros added.
pub mod Stuffing
pub mod Frames
pub mod Bodies
pub mod Writing
pub mod Cuts
pub mod AddedZeros
pub mod Chunks
pub mod Leads
