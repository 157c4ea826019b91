-- The laws of `hdlc`: stuffing and the zeros that it adds, writing piece by piece, and a packet with its FCS.
pub mod NoSix
pub mod Stuffing
pub mod Writing
pub mod OneBit
pub mod PenAfter
pub mod InTurn
pub mod ByteTable
pub mod FiveOnes
pub mod ByWriter
pub mod Ending
pub mod Leads
pub mod WithFcs
pub mod FrameLength
pub mod AddedZeros
pub mod StuffedInTwo
