-- The end of a frame and a whole frame, written piece by piece.
use Prim.Native.Nat.{ℕ, ◌*◌, ◌/◌, ◌%◌, ◌<◌}
use native.Mathlib.Omega.{arith}
use mathlib.Core.Bool.{Bool}
use mathlib.Core.List.{List, ◌++◌, append-nil, append_assoc}
use mathlib.Core.Path.{◌≡◌}
use lib.ListN.{length, length-append}
use Rattle.bits.specs.Bits.{byte_bits, bits_of}
use Rattle.bits.specs.declared.writer.BitWriter.{BitWriter}
use Rattle.bits.proofs.Bits.{length-byte_bits, bits_of_append}
use Rattle.fcs.specs.Fcs.{preset, complement, fcs_of, low_first}
use Rattle.hdlc.specs.Stuffing.{stuff_from, stuff}
use Rattle.hdlc.specs.Frames.{flag, with_fcs, frame}
use Rattle.hdlc.specs.Writing.{Room, Written, Put, Stuffed, stuffed_by, pen_after, ending}
use Rattle.hdlc.specs.Chunks.{WriterRoom, WriterPut}
use Rattle.hdlc.specs.declared.Pen.{Pen}
use Rattle.hdlc.proofs.Stuffing.{stuff_from_append}
use Rattle.hdlc.proofs.Writing.{Written_append, Stuffed-Put, Room_front, Room_back, Room_first, Room_next}
use Rattle.hdlc.proofs.ByWriter.{WriterRoom_first, WriterRoom_next, WriterPut_append}

-- a flag has eight bits
pub length-flag : length flag ≡ 8
unfolding flag
length-flag = length-byte_bits 0x7e

-- the end of a frame: the FCS's low byte, its high byte, and a flag
abbrev pub low : Pen → List Bool
low pen = byte_bits (complement pen.fcs % 256)

abbrev pub high : Pen → List Bool
high pen = byte_bits (complement pen.fcs / 256)

ending-bytes : (pen : Pen) → ending pen ≡ stuffed_by pen (low pen ++ high pen) ++ flag
unfolding ending low_first bits_of
ending-bytes pen = rw append-nil

module _ {old : List ℕ} (pen : Pen) (r : Room old pen.at (ending pen)) where
  Room-fcs : Room old pen.at (stuffed_by pen (low pen ++ high pen))
  Room-fcs = Room_front (stuffed_by pen (low pen ++ high pen)) flag (rw (ending-bytes pen) at r)

  pub Room_low : Room old pen.at (stuffed_by pen (low pen))
  Room_low = Room_first pen (low pen) (high pen) Room-fcs

  pub Room_high : {mid : List ℕ} {p : Pen} → Put old pen (low pen) mid p → length mid ≡ length old →
      Room mid p.at (stuffed_by p (high pen))
  Room_high s e = Room_next (low pen) (high pen) s e Room-fcs

  pub Room-flag : {new : List ℕ} {p : Pen} → Put old pen (low pen ++ high pen) new p → length new ≡ length old →
      Room new p.at flag
  Room-flag s e = Room_back (stuffed_by pen (low pen ++ high pen)) flag e s.written.behind (rw (ending-bytes pen) at r)

pub Written-ending : {old mid new : List ℕ} {p : Pen} {end : ℕ} (pen : Pen) →
    Put old pen (low pen ++ high pen) mid p → Written mid p.at flag new end → Written old pen.at (ending pen) new end
Written-ending pen s w = rw (ending-bytes pen) (Written_append (stuffed_by pen (low pen ++ high pen)) flag s.written w)

-- the same with one bit writer
pub Room_at : {old : List ℕ} (pen : Pen) → Room old pen.at (ending pen) → pen.at < 8 * length old
Room_at pen r =
    let fcs = stuffed_by pen (low pen ++ high pen) in
    omega (arith, rw (ending-bytes pen) at r.within, length-append fcs flag, length-flag)

module _ {old : List ℕ} (pen : Pen) {w : BitWriter} where
  pub WriterRoom-fcs : WriterRoom old w (ending pen) → WriterRoom old w (stuff_from (low pen ++ high pen) pen.free)
  unfolding stuffed_by
  WriterRoom-fcs r = WriterRoom_first (stuff_from (low pen ++ high pen) pen.free) flag (rw (ending-bytes pen) at r)

  module _ {mid : List ℕ} {v : BitWriter} (p : WriterPut old w (stuff_from (low pen ++ high pen) pen.free) mid v) where
    pub WriterRoom-flag : WriterRoom old w (ending pen) → length mid ≡ length old → WriterRoom mid v flag
    unfolding stuffed_by
    WriterRoom-flag r e = WriterRoom_next (stuff_from (low pen ++ high pen) pen.free) flag (rw (ending-bytes pen) at r) p e

    pub WriterPut-ending : {new : List ℕ} {u : BitWriter} → WriterPut mid v flag new u → WriterPut old w (ending pen) new u
    unfolding stuffed_by
    WriterPut-ending q = rw (ending-bytes pen) (WriterPut_append (stuff_from (low pen ++ high pen) pen.free) flag p q)

-- a frame and its flag, from a new pen: the packet, and what ends it
module _ (packet : List ℕ) {at : ℕ} {pen : Pen} (n : (pen.at ≡ at) × (pen.free ≡ 4) × (pen.fcs ≡ 0xffff)) where
  frame-ending : frame packet ++ flag ≡ stuffed_by pen (bits_of packet) ++ ending (pen_after pen (bits_of packet))
  unfolding frame with_fcs stuff stuffed_by ending pen_after fcs_of preset
  frame-ending = rw (bits_of_append, stuff_from_append, append_assoc, n.1, n.2)

  pub Room-packet : {old : List ℕ} → Room old at (frame packet ++ flag) → Room old pen.at (stuffed_by pen (bits_of packet))
  Room-packet r =
      Room_front (stuffed_by pen (bits_of packet)) (ending (pen_after pen (bits_of packet))) (rw frame-ending at (rw (← n.0) at r))

  module _ {old mid : List ℕ} {next : Pen} (s : Stuffed old pen (bits_of packet) mid next) where
    frame_next : frame packet ++ flag ≡ stuffed_by pen (bits_of packet) ++ ending next
    frame_next = rw s.behind frame-ending

    packet_written : Written old at (stuffed_by pen (bits_of packet)) mid next.at
    packet_written = rw (← n.0) (Stuffed-Put (bits_of packet) s).written

    pub Room-ending : length mid ≡ length old → Room old at (frame packet ++ flag) → Room mid next.at (ending next)
    Room-ending l r =
        Room_back (stuffed_by pen (bits_of packet)) (ending next) l packet_written.behind (rw frame_next at r)

    pub Written-frame : {new : List ℕ} {end : ℕ} →
        Written mid next.at (ending next) new end → Written old at (frame packet ++ flag) new end
    Written-frame w = rw frame_next (Written_append (stuffed_by pen (bits_of packet)) (ending next) packet_written w)
