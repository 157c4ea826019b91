-- How long a frame is: "n bits grow by at most n / 5, rounded down" (document 01, "Frames and bits").
use Prim.Native.Nat.{ℕ, ◌+◌, ◌*◌, ◌/◌, ◌^◌, ◌≤◌, ◌<◌}
use mathlib.Core.List.{List, ◌++◌}
use native.Mathlib.Omega.{arith}
use lib.ListN.{length, length-append}
use Rattle.bits.specs.Bits.{bits_of}
use Rattle.hdlc.specs.Frames.{flag, with_fcs, frame}
use Rattle.hdlc.specs.Writing.{Room}
use Rattle.hdlc.proofs.Stuffing.{length-stuff}
use Rattle.hdlc.proofs.Ending.{length-flag}
use Rattle.hdlc.proofs.WithFcs.{length_bits_with_fcs}

pub length-frame : (p : List ℕ) → length (frame p) ≤ 8 * (length p + 2) + 8 * (length p + 2) / 5
unfolding frame
length-frame p = rw (length_bits_with_fcs p) at (length-stuff (bits_of (with_fcs p)))

-- a frame of at most 19 bytes, with its flag, has at most 209 bits
pub length-frame-flag : (p : List ℕ) → length p ≤ 19 → length (frame p ++ flag) ≤ 209
length-frame-flag p h = rw length-append (omega (arith, length-frame p, length-flag))

-- where 209 bits are left, every such frame has room
pub Room-frame : (buffer : List ℕ) (at : ℕ) (p : List ℕ) → length p ≤ 19 → at + 209 ≤ 8 * length buffer → at + 209 < 2 ^ 64 →
    Room buffer at (frame p ++ flag)
Room-frame buffer at p h within small =
    record { within = omega (arith, length-frame-flag p h); small = omega (arith, length-frame-flag p h) }
