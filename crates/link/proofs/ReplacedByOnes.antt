-- No frame passes but those that came whole where every stretch that is replaced is replaced by seven or more ones: a flag, bits without six ones in a
-- row and a flag that stand together are then bits that were sent, in a row.
use Prim.Native.Nat.{ℕ, zero, suc, ◌+◌, ◌≤◌, ◌<◌}
use native.Mathlib.Omega.{arith}
use mathlib.Core.Bool.{Bool, true, false, ◌&&◌, true≢false}
use mathlib.Core.List.{List, [], ◌∷◌, ◌++◌, map, flatten, append_assoc, append-nil, cons-eq-cons, head-eq_of_cons-eq, tail-eq_of_cons-eq}
use Rattle.std.proofs.Common.{Some}
use mathlib.Core.Path.{◌≡◌, refl, sym, ap, ◌∙◌, fun_ext}
use lib.ListN.{length, replicate, length-append}
use lib.Dec.{eqb}
use borrow.Author.Tests.{eqb-true}
use Rattle.bits.specs.Bits.{odd, low_bits, byte_bits}
use Rattle.hdlc.specs.Frames.{flag}
use Rattle.hdlc.proofs.NoSix.{NoSix}
use Rattle.hdlc.proofs.Ending.{length-flag}
use Rattle.packet.specs.Lists.{any_of}
use Rattle.queues.specs.Effects.{TakenBlock, bits_of_block}
use Rattle.link.specs.Demand3.{Piece, kept, replaced, Frame, frame_length, frames_in_blocks, originals}
use Rattle.link.specs.Demand3.{Bit, kept_bits, new_bit, resulting, values, is_number, begin_with, no_other_passes}
use Rattle.link.specs.Channels.{dropped_pieces, OnesOnly}
use Rattle.link.proofs.ResultingBits.{kept_bits_append}
use Rattle.link.proofs.BodiesOfBlocks.{is_at, OwnAt, Own, own_passes}
use Rattle.link.proofs.DroppedBlocks.{values-kept, own-one, own_dropped}

-- ---- bits that seven ones do not cut

-- no seven ones in a row, and a zero at the end, where n more ones may come
Stops : List Bool → ℕ → Type 0
Stops [] n = n ≡ 6
Stops (true ∷ w) zero = ⊥
Stops (true ∷ w) (suc n) = Stops w n
Stops (false ∷ w) n = Stops w 6

-- they do not begin with seven ones
no_ones_at : (w : List Bool) (c : Bool) (n k : ℕ) (v r : List Bool) → Stops (c ∷ w) n → n ≤ 6 → n < k → replicate k true ++ v ≡ c ∷ (w ++ r) → ⊥
unfolding Stops
no_ones_at w c n zero v r h l g e = absurd (omega arith)
no_ones_at w false n (suc k) v r h l g e = true≢false (head-eq_of_cons-eq e)
no_ones_at w true zero (suc k) v r h l g e = h
no_ones_at [] true (suc n) (suc k) v r h l g e = omega arith
no_ones_at (d ∷ w) true (suc n) (suc k) v r h l g e = no_ones_at w d n k v r h (omega arith) (omega arith) (tail-eq_of_cons-eq e)

-- a flag, bits without six ones in a row and a flag are such bits
stops_zero : (x w : List Bool) (n : ℕ) → NoSix x n → Stops w 6 → Stops (x ++ (false ∷ w)) (suc n)
unfolding NoSix Stops
stops_zero [] w n h s = s
stops_zero (false ∷ x) w n h s = stops_zero x w 5 h s
stops_zero (true ∷ x) w zero h s = absurd h
stops_zero (true ∷ x) w (suc n) h s = stops_zero x w n h s

stops_frame : (x : List Bool) → NoSix x 5 → Stops (flag ++ (x ++ flag)) 6
unfolding Stops flag byte_bits low_bits odd
stops_frame x h = stops_zero x (replicate 6 true ++ (false ∷ [])) 5 h refl

-- ---- bits with ones put in, and the bits that were sent from number n on

-- such bits at the front were sent, and have the numbers from n on
Whole : ℕ → List Bit → List Bool → Type 0
Whole n bits sent =
    (w r : List Bool) (m : ℕ) → Stops w m → m ≤ 6 → values bits ≡ w ++ r →
    ((s : List Bool) × (sent ≡ w ++ s)) × ((i : ℕ) → begin_with i (length w) bits ≡ begin_with i (length w) (kept_bits n sent))

whole-none : (n : ℕ) → Whole n [] []
unfolding Whole values kept_bits
whole-none n = λ w r m h l e. ((r, e), λ i. refl)

whole_bit : (b : Bool) (n : ℕ) (bits : List Bit) (sent : List Bool) → Whole (suc n) bits sent
    → Whole n (record { number = Some n; value = b } ∷ bits) (b ∷ sent)
unfolding Whole Stops values kept_bits begin_with
whole_bit b n bits sent whole = go
  where
    more : (c : Bool) (w r : List Bool) (m : ℕ) → Stops w m → m ≤ 6 → b ∷ values bits ≡ c ∷ (w ++ r)
        → ((s : List Bool) × (b ∷ sent ≡ c ∷ (w ++ s)))
        × ((i : ℕ) → begin_with i (suc (length w)) (record { number = Some n; value = b } ∷ bits) ≡ begin_with i (suc (length w)) (kept_bits n (b ∷ sent)))
    more c w r m h l e =
        let found = whole w r m h l (tail-eq_of_cons-eq e) in
        ((found.0.0, cons-eq-cons.1 (head-eq_of_cons-eq e, found.0.1)), λ i. ap (λ t. is_number i (Some n) && t) (found.1 (suc i)))

    go : Whole n (record { number = Some n; value = b } ∷ bits) (b ∷ sent)
    go [] r m h l e = ((b ∷ sent, refl), λ i. refl)
    go (false ∷ w) r m h l e = more false w r 6 h (omega arith) e
    go (true ∷ w) r zero h l e = absurd h
    go (true ∷ w) r (suc m) h l e = more true w r m h (omega arith) e

values-new : (v : List Bool) (bits : List Bit) → values (map new_bit v ++ bits) ≡ v ++ values bits
unfolding values new_bit
values-new [] bits = refl
values-new (b ∷ v) bits = ap (◌∷◌ b) (values-new v bits)

whole_ones : (k n : ℕ) (bits : List Bit) (sent : List Bool) → 7 ≤ k → Whole n (map new_bit (replicate k true) ++ bits) sent
unfolding Whole begin_with
whole_ones k n bits sent many = go
  where
    go : Whole n (map new_bit (replicate k true) ++ bits) sent
    go [] r m h l e = ((sent, refl), λ i. refl)
    go (c ∷ w) r m h l e = absurd (no_ones_at w c m k (values bits) r h l (omega arith) (sym (values-new (replicate k true) bits) ∙ e))

-- ---- frames at their places

-- a frame is at its place by its own bits alone
same_place : (k : ℕ) (a b : List Bit) (f : Frame) → ((i : ℕ) → begin_with i k a ≡ begin_with i k b) → is_at a k f ≡ is_at b k f
unfolding is_at
same_place k a b f same = go (eqb k (frame_length f)) refl
  where
    go : (t : Bool) → eqb k (frame_length f) ≡ t → is_at a k f ≡ is_at b k f
    go true is = rw (← eqb-true k (frame_length f) is, same)
    go false is = rw is

-- a flag, bits and a flag
two-flags : (x r : List Bool) → flag ++ (x ++ flag) ++ r ≡ flag ++ (x ++ (flag ++ r))
two-flags x r = rw (append_assoc, append_assoc)

length_two_flags : (x : List Bool) → length (flag ++ (x ++ flag)) ≡ length x + 16
length_two_flags x = rw (length-append, length-append, length-flag) (omega arith)

module _ (fs : List Frame) where
  -- a place that is right where the bits were sent is right in what came
  own_whole : (n : ℕ) (bits : List Bit) (sent : List Bool) → Whole n bits sent → OwnAt fs (kept_bits n sent) → OwnAt fs bits
  unfolding Whole OwnAt values
  own_whole n bits sent whole own =
      λ x r e h pass.
      let found = whole (flag ++ (x ++ flag)) r 6 (stops_frame x h) (omega arith) (e ∙ sym (two-flags x r)) in
      let numbered : values (kept_bits n sent) ≡ sent = simp append-nil at (values-kept sent n []) in
      ap (λ test. any_of test fs) (fun_ext (λ f. same_place (length x + 16) bits (kept_bits n sent) f (rw (length_two_flags x) at found.1)))
      ∙ own x found.0.0 (numbered ∙ found.0.1 ∙ two-flags x found.0.0) h pass

  -- ones put in, and what lies behind a stretch
  own_new : (k : ℕ) (bits : List Bit) → Own fs bits → Own fs (map new_bit (replicate k true) ++ bits)
  unfolding new_bit
  own_new zero bits own = own
  own_new (suc k) bits own = own-one fs _ _ refl (own_new k bits own)

  own_behind : (old : List Bool) (n : ℕ) (sent : List Bool) → Own fs (kept_bits n (old ++ sent)) → Own fs (kept_bits (n + length old) sent)
  unfolding Own kept_bits
  own_behind [] n sent own = let e : n + 0 ≡ n = omega arith in rw e own
  own_behind (b ∷ old) n sent own =
      let e : n + suc (length old) ≡ suc n + length old = omega arith in
      rw e (own_behind old (suc n) sent own.1)

  -- the bits that came from number n on, and those that were sent: all places are right if they are there
  Right : ℕ → List Bit → List Bool → Type 0
  Right n bits sent = Whole n bits sent × (Own fs (kept_bits n sent) → Own fs bits)

  right_kept : (l : List Bool) (n : ℕ) (bits : List Bit) (sent : List Bool) → Right (n + length l) bits sent → Right n (kept_bits n l ++ bits) (l ++ sent)
  unfolding Right Own kept_bits
  right_kept [] n bits sent h = let e : n + 0 ≡ n = omega arith in rw e at h
  right_kept (b ∷ l) n bits sent h =
      let e : n + suc (length l) ≡ suc n + length l = omega arith in
      let later : Right (suc n) (kept_bits (suc n) l ++ bits) (l ++ sent) = right_kept l (suc n) bits sent (rw e at h) in
      let whole : Whole n (kept_bits n (b ∷ l) ++ bits) (b ∷ (l ++ sent)) = whole_bit b n (kept_bits (suc n) l ++ bits) (l ++ sent) later.0 in
      (whole, λ own. (own_whole n (kept_bits n (b ∷ l) ++ bits) (b ∷ (l ++ sent)) whole own.0, later.1 own.1))

  right_ones : (k : ℕ) (old new : List Bool) (n : ℕ) (bits : List Bit) (sent : List Bool) → new ≡ replicate k true → 7 ≤ k → Right (n + length old) bits sent
      → Right n (map new_bit new ++ bits) (old ++ sent)
  unfolding Right
  right_ones k old new n bits sent is many h =
      (rw is (whole_ones k n bits (old ++ sent) many), λ own. rw is (own_new k bits (h.1 (own_behind old n sent own))))

  right_pieces : (pieces : List Piece) (n : ℕ) → OnesOnly pieces → Right n (resulting n pieces) (originals pieces)
  unfolding Right resulting originals OnesOnly kept_bits
  right_pieces [] n ones = (whole-none n, λ own. own)
  right_pieces (kept l ∷ pieces) n ones = right_kept l n _ _ (right_pieces pieces (n + length l) ones)
  right_pieces (replaced old new ∷ pieces) n ones =
      right_ones (length new) old new n _ _ ones.0 ones.1 (right_pieces pieces (n + length old) ones.2)

-- blocks that come as they were sent
resulting-kept : (bs : List TakenBlock) (n : ℕ) → resulting n (dropped_pieces [] bs) ≡ kept_bits n (flatten (map bits_of_block bs))
unfolding resulting dropped_pieces kept_bits flatten
resulting-kept [] n = refl
resulting-kept (b ∷ bs) n =
    rw (kept_bits_append (bits_of_block b) (flatten (map bits_of_block bs)) n)
    (ap (λ (r : List Bit). kept_bits n (bits_of_block b) ++ r) (resulting-kept bs (n + length (bits_of_block b))))

-- "No frame passes but those that came whole" where each stretch that is replaced is replaced by seven or more ones
pub replaced_by_ones : (bs : List TakenBlock) (pieces : List Piece) → originals pieces ≡ flatten (map bits_of_block bs) → OnesOnly pieces
    → no_other_passes (resulting 0 pieces) (frames_in_blocks 0 bs) ≡ true
unfolding Right
replaced_by_ones bs pieces e ones =
    own_passes (frames_in_blocks 0 bs) (resulting 0 pieces)
    ((right_pieces (frames_in_blocks 0 bs) pieces 0 ones).1 (rw e (rw resulting-kept at (own_dropped bs []))))
