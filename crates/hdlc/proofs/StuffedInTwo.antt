-- Bytes stuffed in two parts are stuffed as one: the run of ones in between is told by the first part's stuffed bits, and the pen that it leaves goes on from it.
use Prim.Native.Nat.{ℕ, ◌+◌, ◌-◌}
use native.Mathlib.Omega.{arith}
use mathlib.Core.Bool.{Bool}
use mathlib.Core.List.{List, [], ◌∷◌, ◌++◌}
use mathlib.Core.Path.{◌≡◌, refl, sym, ap, ◌∙◌}
use lib.ListN.{take, drop, take-append-drop}
use Rattle.bits.specs.Bits.{odd, low_bits, byte_bits, bits_of}
use Rattle.bits.proofs.Bits.{bits_of_append}
use Rattle.hdlc.specs.Stuffing.{stuff_from, free_after, stuff, end_ones}
use Rattle.hdlc.specs.Frames.{with_fcs, frame}
use Rattle.hdlc.specs.Writing.{stuffed_by, pen_after}
use Rattle.hdlc.specs.Cuts.{stuff_on, run_left, stuffed_in_two, CutBetweenBytes}
use Rattle.hdlc.specs.declared.Pen.{Pen}
use Rattle.hdlc.proofs.Stuffing.{stuff_from_append, free_after-end_ones}

-- bits stuffed on from a run are stuffed with as many free as make four with it
stuff_on_free : (run free : ℕ) (bits : List Bool) → run + free ≡ 4 → stuff_on run bits ≡ stuff_from bits free
unfolding stuff_on
stuff_on_free run free bits e =
    let f : 4 - run ≡ free = omega arith in
    ap (stuff_from bits) f

-- so behind a first part, with those that it leaves free
stuff_on-run_left : (first rest : List ℕ) → stuff_on (run_left first) (bits_of rest) ≡ stuff_from (bits_of rest) (free_after (bits_of first) 4)
unfolding run_left stuff
stuff_on-run_left first rest =
    stuff_on_free (end_ones (stuff_from (bits_of first) 4) 0) (free_after (bits_of first) 4) (bits_of rest)
    (free_after-end_ones (bits_of first) 4 0 refl)

in_two : (first rest : List ℕ) → stuffed_in_two first rest ≡ stuff (bits_of (first ++ rest))
unfolding stuffed_in_two stuff
in_two first rest =
    rw (bits_of_append first rest, stuff_from_append (bits_of first) (bits_of rest) 4)
    (ap (λ (r : List Bool). stuff_from (bits_of first) 4 ++ r) (stuff_on-run_left first rest))

frame_in_two : (packet : List ℕ) (k : ℕ) → stuffed_in_two (take k (with_fcs packet)) (drop k (with_fcs packet)) ≡ frame packet
unfolding frame
frame_in_two packet k = in_two (take k (with_fcs packet)) (drop k (with_fcs packet)) ∙ rw take-append-drop

pen_in_two : (pen : Pen) (first rest : List ℕ) → pen.free ≡ 4
    → stuffed_by (pen_after pen (bits_of first)) (bits_of rest) ≡ stuff_on (run_left first) (bits_of rest)
unfolding stuffed_by pen_after
pen_in_two pen first rest e = rw e (sym (stuff_on-run_left first rest))

pub cut-between-bytes : CutBetweenBytes
cut-between-bytes = record { whole = in_two; frames = frame_in_two; pens = pen_in_two }

-- closed cases: FF hex leaves the three ones behind its stuffed zero, F0 hex four, F8 hex none
pub runs_left : (run_left (0xff ∷ []) ≡ 3) × (run_left (0xf0 ∷ []) ≡ 4) × (run_left (0xf8 ∷ []) ≡ 0)
unfolding run_left stuff stuff_from end_ones bits_of byte_bits low_bits odd
runs_left = (refl, refl, refl)
