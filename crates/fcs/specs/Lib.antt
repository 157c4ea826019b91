-- The definitions of `fcs`: HDLC's 16-bit frame check sequence.
pub mod Fcs
