-- What the writing functions of `hdlc` say of the buffer, of the pen and of the zeros added to a frame.
use Rattle.std.specs.Prelude.{ℕ, ◌+◌, ◌*◌, ◌^◌, ◌≤◌, ◌<◌, Bool, List, ◌++◌, ◌≡◌, length}
use Rattle.std.proofs.lemmas.List.Edits.{sets}
use Rattle.bits.specs.Bits.{bits_of}
use Rattle.fcs.specs.Fcs.{fcs_run, complement, low_first}
use Rattle.hdlc.specs.Stuffing.{stuff_from, free_after}
use Rattle.hdlc.specs.Frames.{flag, frame, added_in}
use Rattle.hdlc.specs.declared.Pen.{Pen}
use Rattle.hdlc.specs.declared.zeros.Framed.{Framed}

-- the bits have room in the buffer from bit `at` on, and their numbers fit the machine's words
pub record Room (buffer : List ℕ) (at : ℕ) (bits : List Bool) : Type 0 where
  pub within : at + length bits ≤ 8 * length buffer
  pub small : at + length bits < 2 ^ 64

-- the bits are written over the buffer's from bit `at` on, and `end` is the number of the bit behind them
pub record Written (old : List ℕ) (at : ℕ) (bits : List Bool) (new : List ℕ) (end : ℕ) : Type 0 where
  pub buffer : bits_of new ≡ sets (bits_of old) at bits
  pub behind : end ≡ at + length bits

-- the bits stuffed on from the run of ones that the pen has behind it
unfoldable pub stuffed_by : Pen → List Bool → List Bool
stuffed_by pen bits = stuff_from bits pen.free

-- the pen behind the bits
unfoldable pub pen_after : Pen → List Bool → Pen
pen_after pen bits =
    record {
      at = pen.at + length (stuffed_by pen bits);
      free = free_after bits pen.free;
      fcs = fcs_run pen.fcs bits;
    }

-- the bits are written, stuffed, at the pen, and `next` stands behind them, whatever FCS register it holds
pub record Put (old : List ℕ) (pen : Pen) (bits : List Bool) (new : List ℕ) (next : Pen) : Type 0 where
  pub written : Written old pen.at (stuffed_by pen bits) new next.at
  pub free : next.free ≡ free_after bits pen.free

-- the bits are written, stuffed, at the pen, and `next` is the pen behind them
pub record Stuffed (old : List ℕ) (pen : Pen) (bits : List Bool) (new : List ℕ) (next : Pen) : Type 0 where
  pub buffer : bits_of new ≡ sets (bits_of old) pen.at (stuffed_by pen bits)
  pub behind : next ≡ pen_after pen bits

-- what ends a frame: the FCS of what the pen has written, stuffed, and a flag
unfoldable pub ending : Pen → List Bool
ending pen = stuffed_by pen (bits_of (low_first (complement pen.fcs))) ++ flag

-- a packet's frame and the flag behind it are written over the buffer's bits from bit `at` on, and `r` tells of them
pub record FrameWritten (old : List ℕ) (at : ℕ) (packet : List ℕ) (new : List ℕ) (r : Framed) : Type 0 where
  pub written : Written old at (frame packet ++ flag) new r.at
  pub zeros : r.zeros ≡ added_in packet
