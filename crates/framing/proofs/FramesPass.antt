-- Every frame passes: once a flag is read, in whatever framing, the frame of a packet of 2 to 19 bytes and the flag behind it close
-- exactly one body, with the last bit, and it gives that packet.
use Prim.Native.Nat.{ℕ, ◌+◌, ◌*◌, ◌%◌, ◌≤◌, ◌<◌}
use mathlib.Core.Bool.{Bool, true, false}
use mathlib.Core.List.{List, [], ◌∷◌, ◌++◌}
use mathlib.Core.Option.{some}
use mathlib.Core.Path.{◌≡◌, ◌∙◌}
use native.Mathlib.Omega.{arith}
use lib.ListN.{length}
use borrow.Author.Tests.{lt-ltb, le-leb}
use Rattle.bits.specs.Bits.{bits_of, bytes_of, Bytes}
use Rattle.bits.proofs.Bits.{bytes_of-bits_of, Bytes_append}
use Rattle.fcs.specs.Fcs.{fcs_of, low_first}
use Rattle.fcs.proofs.Laws.{fcs_of_lt, low_first-Bytes}
use Rattle.hdlc.specs.Frames.{flag, with_fcs, frame}
use Rattle.hdlc.specs.Bodies.{passes, passing, judge_bits}
use Rattle.hdlc.proofs.WithFcs.{length_bits_with_fcs, packet-with_fcs, fcs_right-with_fcs}
use Rattle.framing.specs.declared.Framing.{Framing}
use Rattle.framing.specs.Machine.{empty, phase_after, run}
use Rattle.framing.specs.Closings.{at_most168, closings}
use Rattle.framing.proofs.ClosedFramed.{closed-phase_after}
use Rattle.framing.proofs.Runs.{run_append}
use Rattle.framing.proofs.Resync.{run-flag}
use Rattle.framing.proofs.Stuffed.{closings-stuff-flag}

-- ---- a packet with its FCS passes

-- its bytes
Bytes-with_fcs : (p : List ℕ) → Bytes p → Bytes (with_fcs p)
unfolding with_fcs
Bytes-with_fcs p h = Bytes_append p (low_first (fcs_of p)) h (low_first-Bytes (fcs_of p) (fcs_of_lt p))

-- behind fewer than five ones the bits pass, and give the packet
passing-with_fcs : (ones : ℕ) (p : List ℕ) → ones < 5 → Bytes p → 2 ≤ length p → length p ≤ 19 →
    passing ones (bits_of (with_fcs p)) ≡ true
unfolding passing
passing-with_fcs ones p few h low high =
    let n : length (bits_of (with_fcs p)) ≡ 8 * (length p + 2) = length_bits_with_fcs p in
    let least : 32 ≤ 8 * (length p + 2) = omega arith in
    let most : 8 * (length p + 2) ≤ 168 = omega arith in
    let whole : 8 * (length p + 2) % 8 ≡ 0 = omega arith in
    let bytes : bytes_of (bits_of (with_fcs p)) ≡ with_fcs p = bytes_of-bits_of (with_fcs p) (Bytes-with_fcs p h) in
    rw (lt-ltb ones 5 few, n, le-leb 32 (8 * (length p + 2)) least, le-leb (8 * (length p + 2)) 168 most, whole, bytes, fcs_right-with_fcs p)

pub judge_bits-with_fcs : (ones : ℕ) (p : List ℕ) → ones < 5 → Bytes p → 2 ≤ length p → length p ≤ 19 →
    judge_bits ones (bits_of (with_fcs p)) ≡ passes p
unfolding judge_bits
judge_bits-with_fcs ones p few h low high =
    rw (passing-with_fcs ones p few h low high, bytes_of-bits_of (with_fcs p) (Bytes-with_fcs p h), packet-with_fcs p)

-- ---- the theorem

-- one body is closed, with the last bit, and it gives the packet
pub frame-passes : (f : Framing) (n : ℕ) (p : List ℕ) → Bytes p → 2 ≤ length p → length p ≤ 19 →
    closings (run f flag) n (frame p ++ flag) ≡
    record { read = n + length (frame p ++ flag); bits = some (bits_of (with_fcs p)); five = false; gives = passes p } ∷ []
unfolding frame at_most168 phase_after
frame-passes f n p h low high =
    let x : List Bool = bits_of (with_fcs p) in
    let fits : length x ≤ 168 = omega (arith, length_bits_with_fcs p) in
    rw (run-flag f)
    (closings-stuff-flag x n
    ∙ rw (closed-phase_after 0 6 (n + length (frame p ++ flag)) x (omega arith), le-leb (length x) 168 fits)
    (rw (judge_bits-with_fcs 0 p (omega arith) h low high)))

-- and the framing behind it is the one behind any flag, ready for the next frame
pub run-frame : (f : Framing) (p : List ℕ) → run (run f flag) (frame p ++ flag) ≡ empty 2
run-frame f p = run_append (frame p) flag (run f flag) ∙ run-flag (run (run f flag) (frame p))
