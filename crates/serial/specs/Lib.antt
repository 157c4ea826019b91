-- The definitions of `serial`: octet-stuffed frames on a serial line, as they are written and as they are found in any bytes; the reader's machine; and what
-- is proved of them.
pub mod Octets
pub mod Writing
pub mod Frames
pub mod Machine
pub mod SerialLine
