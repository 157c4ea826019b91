-- Stuffing cut between bytes (document 02, ask 2): "Prove for any cut between bytes: the first part stuffed, and behind it the rest stuffed on from the run
-- of ones that it left, are the bits of the whole stuffed."
use Rattle.std.specs.Prelude.{ℕ, ◌-◌, Bool, List, ◌++◌, ◌≡◌, take, drop}
use Rattle.bits.specs.Bits.{bits_of}
use Rattle.hdlc.specs.Stuffing.{stuff_from, stuff, end_ones}
use Rattle.hdlc.specs.Frames.{with_fcs, frame}
use Rattle.hdlc.specs.Writing.{stuffed_by, pen_after}
use Rattle.hdlc.specs.declared.Pen.{Pen}

-- bits "stuffed on from the run of ones" before them, at most four: 4 - run more ones may come before the one that gets a 0 behind it
unfoldable pub stuff_on : ℕ → List Bool → List Bool
stuff_on run bits = stuff_from bits (4 - run)

-- "the run of ones that it left": the ones at the end of the first part as it is stuffed
unfoldable pub run_left : List ℕ → ℕ
run_left first = end_ones (stuff (bits_of first)) 0

-- "the first part stuffed, and behind it the rest stuffed on from the run of ones that it left"
unfoldable pub stuffed_in_two : List ℕ → List ℕ → List Bool
stuffed_in_two first rest = stuff (bits_of first) ++ stuff_on (run_left first) (bits_of rest)

pub record CutBetweenBytes : Type 0 where
  -- ".. are the bits of the whole stuffed"
  pub whole : (first rest : List ℕ) → stuffed_in_two first rest ≡ stuff (bits_of (first ++ rest))
  -- so are they for the bytes of a frame, packet and FCS, cut behind any k of them
  pub frames : (packet : List ℕ) (k : ℕ) → stuffed_in_two (take k (with_fcs packet)) (drop k (with_fcs packet)) ≡ frame packet
  -- the code's pen, from the start of a frame on: the pen that the first part leaves stuffs the rest on from that run
  pub pens : (pen : Pen) (first rest : List ℕ) → pen.free ≡ 4
      → stuffed_by (pen_after pen (bits_of first)) (bits_of rest) ≡ stuff_on (run_left first) (bits_of rest)
