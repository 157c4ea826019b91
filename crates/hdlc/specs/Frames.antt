-- Frames: "Packet and FCS are stuffed ... The flag is 7E hex" (document 01, "Frames and bits"), and what stuffing adds to one (document 02, ask 6).
use Rattle.std.specs.Prelude.{ℕ, Bool, List, ◌++◌}
use Rattle.bits.specs.Bits.{byte_bits, bits_of}
use Rattle.fcs.specs.Fcs.{fcs_of, low_first}
use Rattle.hdlc.specs.Stuffing.{stuff, added}

-- the flag, 7E hex: the bits 01111110
unfoldable pub flag : List Bool
flag = byte_bits 0x7e

-- a packet with its FCS behind it
unfoldable pub with_fcs : List ℕ → List ℕ
with_fcs p = p ++ low_first (fcs_of p)

-- the bits of a packet's frame between its two flags
unfoldable pub frame : List ℕ → List Bool
frame p = stuff (bits_of (with_fcs p))

-- "the stuffing of a frame": the zeros that it adds to packet and FCS
unfoldable pub added_in : List ℕ → ℕ
added_in p = added (bits_of (with_fcs p))
