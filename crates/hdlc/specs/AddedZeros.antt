-- What is promised of the zeros that stuffing adds (document 02, ask 6): "The count is the definition's, at most one fifth of the unstuffed bits, rounded
-- down for each frame."
use Rattle.std.specs.Prelude.{ℕ, ◌+◌, ◌*◌, ◌/◌, ◌≤◌, Bool, List, ◌≡◌, length}
use Rattle.hdlc.specs.Stuffing.{stuff, unstuff, added}
use Rattle.hdlc.specs.Frames.{frame, added_in}

pub record AddedZeros : Type 0 where
  -- the stuffed bits are the unstuffed ones and that many more
  pub more : (bits : List Bool) → length (stuff bits) ≡ length bits + added bits
  -- of a frame the unstuffed ones are eight for each byte of packet and FCS
  pub frames : (packet : List ℕ) → length (frame packet) ≡ 8 * (length packet + 2) + added_in packet
  -- "at most one fifth of the unstuffed bits, rounded down for each frame"
  pub fifth : (packet : List ℕ) → added_in packet ≤ 8 * (length packet + 2) / 5
  -- a reader's count: as many as unstuffing drops
  pub dropped : (packet : List ℕ) → length (frame packet) ≡ length (unstuff (frame packet)) + added_in packet
