-- No frame passes but those that came whole, whatever whole blocks are dropped, and so too where nothing is: between two flags that follow each other
-- stand a frame's bits or ones, and ones do not pass.
use Prim.Native.Nat.{ℕ, zero, suc, ◌+◌, ◌-◌, ◌≤◌}
use native.Mathlib.Numerals.{add_eight}
use native.Mathlib.Omega.{arith}
use mathlib.Core.Bool.{Bool, true, false, ◌||◌, or-true, or_assoc, true≢false}
use mathlib.Core.List.{List, [], ◌∷◌, ◌++◌, append_assoc, append-nil, append_cancel_left, head-eq_of_cons-eq, tail-eq_of_cons-eq, cons≢nil}
use mathlib.Core.Logic.{◌⊎◌, inl, inr, ⊎_elim}
use mathlib.Core.Path.{◌≡◌, refl, sym, ap, ◌∙◌}
use lib.ListN.{length, replicate, length-append}
use borrow.Author.Tests.{eq-eqb}
use Rattle.bits.specs.Bits.{odd, low_bits, byte_bits, bits_of}
use Rattle.hdlc.specs.Stuffing.{unstuff_from, unstuff, end_ones}
use Rattle.hdlc.specs.Frames.{flag, with_fcs, frame}
use Rattle.hdlc.specs.Bodies.{starts_with, holds, void, passing, judge_bits, judge}
use Rattle.hdlc.proofs.NoSix.{NoSix, NoSix_tail}
use Rattle.hdlc.proofs.Stuffing.{NoSix_stuff}
use Rattle.hdlc.proofs.Ending.{length-flag}
use Rattle.packet.specs.Lists.{any_of}
use Rattle.sender.specs.Blocks.{frames_bits, flagged_frames, block_of}
use Rattle.queues.specs.Effects.{TakenBlock, packets_taken, bits_of_block}
use Rattle.link.specs.Demand3.{Frame, frame_length, InBlock, packets_in, frames_from, frames_in_blocks}
use Rattle.link.specs.Demand3.{Bit, kept_bits, resulting, values, is_passed, no_other_passes}
use Rattle.link.specs.Channels.{dropped_pieces}
use Rattle.link.proofs.Steps.{alone}
use Rattle.link.proofs.FramesLaid.{alone_packets_in}
use Rattle.link.proofs.ResultingBits.{begins_kept}
use Rattle.link.proofs.BodiesOfBlocks.{is_at, OwnAt, Own, flag_bits, own_passes}

-- ---- bits that keep their numbers

pub values-kept : (a : List Bool) (n : ℕ) (bits : List Bit) → values (kept_bits n a ++ bits) ≡ a ++ values bits
unfolding values kept_bits
values-kept [] n bits = refl
values-kept (x ∷ a) n bits = ap (◌∷◌ x) (values-kept a (suc n) bits)

values_before_flag : (y z : List Bool) (n : ℕ) (bits : List Bit)
    → values (kept_bits n (y ++ (flag ++ z)) ++ bits) ≡ y ++ (flag ++ (z ++ values bits))
values_before_flag y z n bits = values-kept (y ++ (flag ++ z)) n bits ∙ rw (append_assoc, append_assoc)

-- ---- where flags begin

-- where n more ones may come before a zero, n + 1 do not
no_more_ones : (x : List Bool) (n : ℕ) (a b : List Bool) → NoSix x n → x ++ (false ∷ a) ≡ replicate (suc n) true ++ b → ⊥
unfolding NoSix
no_more_ones [] n a b h e = true≢false (sym (head-eq_of_cons-eq e))
no_more_ones (false ∷ x) n a b h e = true≢false (sym (head-eq_of_cons-eq e))
no_more_ones (true ∷ x) zero a b h e = h
no_more_ones (true ∷ x) (suc n) a b h e = no_more_ones x n a b h (tail-eq_of_cons-eq e)

-- so no flag begins in bits without six ones in a row that stand before a flag
no_flag_in : (x a b : List Bool) → NoSix x 5 → x ++ (flag ++ a) ≡ flag ++ b → x ≡ []
unfolding NoSix
no_flag_in [] a b h e = refl
no_flag_in (true ∷ x) a b h e = absurd (true≢false (head-eq_of_cons-eq (e ∙ flag_bits b)))
no_flag_in (false ∷ x) a b h e =
    absurd (no_more_ones x 5 (replicate 6 true ++ (false ∷ a)) (false ∷ b) h (rw flag_bits at (tail-eq_of_cons-eq (e ∙ flag_bits b))))

-- bits in which no flag begins if they stand before one
Plain : List Bool → Type 0
Plain [] = Unit {0}
Plain (c ∷ y) = ((a b : List Bool) → (c ∷ y) ++ (flag ++ a) ≡ flag ++ b → ⊥) × Plain y

plain_stuffed : (y : List Bool) → NoSix y 5 → Plain y
unfolding Plain
plain_stuffed [] h = tt
plain_stuffed (c ∷ y) h = (λ a b e. cons≢nil (no_flag_in (c ∷ y) a b h e), plain_stuffed y (NoSix_tail c y h))

plain_ones : (k : ℕ) → Plain (replicate k true)
unfolding Plain
plain_ones zero = tt
plain_ones (suc k) = (λ a b e. true≢false (head-eq_of_cons-eq (e ∙ flag_bits b)), plain_ones k)

-- bits before the first flag, without six ones in a row, are those that stand there
same_body : (x y a b : List Bool) → NoSix x 5 → Plain y → y ++ (flag ++ a) ≡ x ++ (flag ++ b) → x ≡ y
unfolding Plain
same_body [] [] a b h p e = refl
same_body [] (c ∷ y) a b h p e = absurd (p.0 a b e)
same_body (d ∷ x) [] a b h p e = no_flag_in (d ∷ x) b a h (sym e)
same_body (d ∷ x) (c ∷ y) a b h p e =
    rw (sym (head-eq_of_cons-eq e)) (ap (◌∷◌ c) (same_body x y a b (NoSix_tail d x h) p.1 (tail-eq_of_cons-eq e)))

-- ---- ones

-- no zero stands among ones, and the first zero behind ones is one
no_zero_in : (x a : List Bool) (k : ℕ) → replicate k true ≡ x ++ (false ∷ a) → ⊥
no_zero_in [] a zero e = cons≢nil (sym e)
no_zero_in [] a (suc k) e = true≢false (head-eq_of_cons-eq e)
no_zero_in (c ∷ x) a zero e = cons≢nil (sym e)
no_zero_in (c ∷ x) a (suc k) e = no_zero_in x a k (tail-eq_of_cons-eq e)

behind-zero : (k m : ℕ) (a b : List Bool) → replicate k true ++ (false ∷ a) ≡ replicate m true ++ (false ∷ b) → a ≡ b
behind-zero zero zero a b e = tail-eq_of_cons-eq e
behind-zero zero (suc m) a b e = absurd (true≢false (sym (head-eq_of_cons-eq e)))
behind-zero (suc k) zero a b e = absurd (true≢false (head-eq_of_cons-eq e))
behind-zero (suc k) (suc m) a b e = behind-zero k m a b (tail-eq_of_cons-eq e)

-- fewer than six do not pass
few_ones : (k : ℕ) → NoSix (replicate k true) 5 → is_passed (judge (replicate k true)) ≡ false
unfolding NoSix judge void holds starts_with judge_bits passing unstuff unstuff_from end_ones is_passed
few_ones zero h = refl
few_ones (suc zero) h = refl
few_ones (suc (suc zero)) h = refl
few_ones (suc (suc (suc zero))) h = refl
few_ones (suc (suc (suc (suc zero)))) h = refl
few_ones (suc (suc (suc (suc (suc zero))))) h = refl
few_ones (suc (suc (suc (suc (suc (suc k)))))) h = absurd h

-- nothing follows, or a flag
Follows : List Bool → Type 0
Follows v = (v ≡ []) ⊎ ((r : List Bool) × (v ≡ flag ++ r))

-- behind a flag and ones: no body that passes, and none that a flag opens which shares the last zero of that flag
no_body_of_ones : (k : ℕ) (v x r : List Bool) → Follows v → replicate k true ++ v ≡ x ++ (flag ++ r) → NoSix x 5 → is_passed (judge x) ≡ true → ⊥
unfolding Follows
no_body_of_ones k v x r follows e h pass = ⊎_elim nothing flagged follows
  where
    nothing : v ≡ [] → ⊥
    nothing gone = no_zero_in x _ k (sym (append-nil _) ∙ (rw (gone, flag_bits) at e))

    flagged : ((s : List Bool) × (v ≡ flag ++ s)) → ⊥
    flagged (s, is) =
        let same : x ≡ replicate k true = same_body x (replicate k true) s r h (plain_ones k) (rw is at e) in
        true≢false (sym pass ∙ rw same (few_ones k (rw same at h)))

no_shared_flag : (k : ℕ) (v x r : List Bool) → Follows v → replicate k true ++ v ≡ replicate 6 true ++ (false ∷ (x ++ (flag ++ r))) → NoSix x 5 → ⊥
unfolding Follows
no_shared_flag k v x r follows e h = ⊎_elim nothing flagged follows
  where
    nothing : v ≡ [] → ⊥
    nothing gone = no_zero_in (replicate 6 true) _ k (sym (append-nil _) ∙ (rw gone at e))

    flagged : ((s : List Bool) × (v ≡ flag ++ s)) → ⊥
    flagged (s, is) =
        let behind : replicate 6 true ++ (false ∷ s) ≡ x ++ (flag ++ r) = behind-zero k 6 _ _ (rw (is, flag_bits s) at e) in
        no_more_ones x 5 _ _ h (sym (rw (flag_bits r) at behind))

-- ---- each place of a block is right

-- a frame's bits hold no six ones in a row, and are at their place
no_six_frame : (p : List ℕ) → NoSix (frame p) 5
unfolding frame
no_six_frame p = NoSix_stuff (bits_of (with_fcs p))

own_place : (f : Frame) (z : List Bool) (bits : List Bit)
    → any_of (is_at (kept_bits f.from (flag ++ (frame f.packet ++ (flag ++ z))) ++ bits) (length (frame f.packet) + 16)) (f ∷ []) ≡ true
unfolding any_of is_at frame_length
own_place f z bits =
    let y : List Bool = frame f.packet in
    let e : flag ++ (y ++ (flag ++ z)) ≡ flag ++ y ++ flag ++ z = simp append_assoc in
    let n : length y + 16 ≡ length (flag ++ y ++ flag) = rw (length-append, length-append, length-flag) (omega arith) in
    let fits : length (flag ++ y ++ flag) ≤ length (flag ++ y ++ flag ++ z) = rw (length-append (flag ++ y ++ flag) z) (omega arith) in
    rw (e, eq-eqb (length y + 16) (length (flag ++ y ++ flag)) n, begins_kept _ f.from (flag ++ y ++ flag ++ z) bits fits)

-- one of two lists passes a test if one of the first does or one of the second
any_of_append : (test : Frame → Bool) (fs gs : List Frame) → any_of test (fs ++ gs) ≡ (any_of test fs || any_of test gs)
unfolding any_of
any_of_append test [] gs = refl
any_of_append test (f ∷ fs) gs = rw (any_of_append test fs gs) (sym (or_assoc (test f) (any_of test fs) (any_of test gs)))

joined-behind : (a b c d : List Bool) → a ++ b ++ c ++ d ≡ a ++ (b ++ (c ++ d))
joined-behind a b c d = simp append_assoc

-- a block begins with a flag, and so do blocks of which some are dropped, unless all are
follows_block : (b : TakenBlock) (n : ℕ) (bits : List Bit) → Follows (values (kept_bits n (bits_of_block b) ++ bits))
unfolding Follows bits_of_block block_of flagged_frames
follows_block b n bits = inr (_, values-kept (bits_of_block b) n bits ∙ joined-behind flag (frames_bits (b.before ++ packets_taken b.frames)) _ (values bits))

follows_dropped : (bs : List TakenBlock) (keep : List Bool) (n : ℕ) → Follows (values (resulting n (dropped_pieces keep bs)))
unfolding Follows values resulting dropped_pieces
follows_dropped [] keep n = inl refl
follows_dropped (b ∷ bs) [] n = follows_block b n _
follows_dropped (b ∷ bs) (true ∷ keep) n = follows_block b n _
follows_dropped (b ∷ bs) (false ∷ keep) n = follows_dropped bs keep (n + length (bits_of_block b))

module _ (fs : List Frame) where
  -- the frames are among them
  abbrev Has : List Frame → Type 0
  Has gs = (test : Frame → Bool) → any_of test gs ≡ true → any_of test fs ≡ true

  has_left : (gs hs : List Frame) → Has (gs ++ hs) → Has gs
  has_left gs hs has = λ test h. has test (rw (any_of_append test gs hs, h))

  has_right : (gs hs : List Frame) → Has (gs ++ hs) → Has hs
  has_right gs hs has = λ test h. has test (rw (any_of_append test gs hs, h) (or-true (any_of test gs)))

  -- no flag begins at a one, and in a flag none but itself, unless at its last zero
  pub own-one : (b : Bit) (bits : List Bit) → b.value ≡ true → Own fs bits → Own fs (b ∷ bits)
  unfolding Own OwnAt values
  own-one b bits is own =
      (λ x rest e n p. absurd (true≢false (sym is ∙ head-eq_of_cons-eq (e ∙ flag_bits (x ++ (flag ++ rest))))), own)

  own_flag : (l : List Bool) (n : ℕ) (bits : List Bit)
      → ((x r : List Bool) → l ++ values bits ≡ x ++ (flag ++ r) → NoSix x 5 → is_passed (judge x) ≡ true
      → any_of (is_at (kept_bits n (flag ++ l) ++ bits) (length x + 16)) fs ≡ true)
      → ((x r : List Bool) → l ++ values bits ≡ replicate 6 true ++ (false ∷ (x ++ (flag ++ r))) → NoSix x 5 → ⊥)
      → Own fs (kept_bits (n + 8) l ++ bits) → Own fs (kept_bits n (flag ++ l) ++ bits)
  unfolding Own OwnAt kept_bits flag byte_bits low_bits odd
  own_flag l n bits first last own = (
    λ x r e h pass.
        first x r (append_cancel_left flag _ _ (sym (values-kept (flag ++ l) n bits ∙ append_assoc flag l (values bits)) ∙ e)) h pass,
    own-one _ _ refl (own-one _ _ refl (own-one _ _ refl (own-one _ _ refl (own-one _ _ refl (own-one _ _ refl (
      λ x r e h pass. absurd (last x r (tail-eq_of_cons-eq (sym (values-kept (false ∷ l) _ bits) ∙ e)) h),
      rw (add_eight n) at own,
    )))))),
  )

  -- bits in which no flag begins
  own_plain : (y z : List Bool) (n : ℕ) (bits : List Bit) → Plain y → ((m : ℕ) → m ≡ n + length y → Own fs (kept_bits m (flag ++ z) ++ bits))
      → Own fs (kept_bits n (y ++ (flag ++ z)) ++ bits)
  unfolding Own OwnAt Plain kept_bits
  own_plain [] z n bits p own = own n (omega arith)
  own_plain (c ∷ y) z n bits p own = (
    λ x rest e h pass. absurd (p.0 _ _ (sym (values_before_flag (c ∷ y) z n bits) ∙ e)),
    own_plain y z (suc n) bits p.1 (λ m e. own m (omega arith)),
  )

  -- a frame: its place is right, and no flag begins in it
  own_frame : (f : Frame) (z : List Bool) (bits : List Bit) → Has (f ∷ [])
      → Own fs (kept_bits (f.from + length (frame f.packet ++ flag)) (flag ++ z) ++ bits)
      → Own fs (kept_bits f.from (flag ++ (frame f.packet ++ (flag ++ z))) ++ bits)
  own_frame f z bits has own =
      own_flag (y ++ (flag ++ z)) f.from bits first
      (λ x r e h. no_more_ones y 5 _ _ calm (rw (flag_bits (z ++ values bits)) at (sym joined ∙ e)))
      (own_plain y z (f.from + 8) bits (plain_stuffed y calm)
      (λ m e.
      let at : f.from + length (y ++ flag) ≡ m = omega (arith, length-append y flag, length-flag) in
      rw at at own))
    where
      y : List Bool
      y = frame f.packet

      calm : NoSix y 5
      calm = no_six_frame f.packet

      joined : y ++ (flag ++ z) ++ values bits ≡ y ++ (flag ++ (z ++ values bits))
      joined = rw (append_assoc, append_assoc)

      first : (x r : List Bool) → y ++ (flag ++ z) ++ values bits ≡ x ++ (flag ++ r) → NoSix x 5 → is_passed (judge x) ≡ true
          → any_of (is_at (kept_bits f.from (flag ++ (y ++ (flag ++ z))) ++ bits) (length x + 16)) fs ≡ true
      first x r e h pass =
          let same : x ≡ y = same_body x y (z ++ values bits) r h (plain_stuffed y calm) (sym joined ∙ e) in
          rw same (has (is_at (kept_bits f.from (flag ++ (y ++ (flag ++ z))) ++ bits) (length y + 16)) (own_place f z bits))

  own_frames : (xs : List InBlock) (n : ℕ) (l : List Bool) (bits : List Bit) → Has (frames_from n xs)
      → ((m : ℕ) → Own fs (kept_bits m (flag ++ l) ++ bits)) → Own fs (kept_bits n (flag ++ (frames_bits (alone xs) ++ l)) ++ bits)
  unfolding frames_from frames_bits
  own_frames [] n l bits has own = own n
  own_frames (x ∷ xs) n l bits has own =
      let f : Frame = record { from = n; packet = x.packet; whose = x.whose } in
      let e : (frame x.packet ++ flag) ++ frames_bits (alone xs) ++ l ≡ frame x.packet ++ (flag ++ (frames_bits (alone xs) ++ l)) = simp append_assoc in
      rw e
      (own_frame f (frames_bits (alone xs) ++ l) bits (has_left (f ∷ []) _ has)
      (own_frames xs (n + length (frame x.packet ++ flag)) l bits (has_right (f ∷ []) _ has) own))

  -- ones, and the flag before them
  own_run : (k n : ℕ) (bits : List Bit) → Own fs bits → Own fs (kept_bits n (replicate k true) ++ bits)
  unfolding kept_bits
  own_run zero n bits own = own
  own_run (suc k) n bits own = own-one _ _ refl (own_run k (suc n) bits own)

  own_ones : (k n : ℕ) (bits : List Bit) → Follows (values bits) → Own fs bits → Own fs (kept_bits n (flag ++ replicate k true) ++ bits)
  own_ones k n bits follows own =
      own_flag (replicate k true) n bits (λ x r e h pass. absurd (no_body_of_ones k (values bits) x r follows e h pass))
      (λ x r e h. no_shared_flag k (values bits) x r follows e h) (own_run k (n + 8) bits own)

  -- a block: its frames, and the ones behind them
  own_block : (b : TakenBlock) (n : ℕ) (bits : List Bit) → Has (frames_from n (packets_in b)) → Follows (values bits) → Own fs bits
      → Own fs (kept_bits n (bits_of_block b) ++ bits)
  unfolding bits_of_block block_of flagged_frames
  own_block b n bits has follows own =
      let ps : List (List ℕ) = b.before ++ packets_taken b.frames in
      let k : ℕ = b.size - length (flag ++ frames_bits ps) in
      let e : flag ++ frames_bits ps ++ replicate k true ≡ flag ++ (frames_bits (alone (packets_in b)) ++ replicate k true) =
      rw (alone_packets_in b) (append_assoc flag (frames_bits ps) (replicate k true)) in
      rw e (own_frames (packets_in b) n (replicate k true) bits has (λ m. own_ones k m bits follows own))

  -- blocks of which some are dropped
  own_dropped_from : (bs : List TakenBlock) (keep : List Bool) (n : ℕ) → Has (frames_in_blocks n bs) → Own fs (resulting n (dropped_pieces keep bs))
  unfolding frames_in_blocks resulting dropped_pieces Own
  own_dropped_from [] keep n has = tt
  own_dropped_from (b ∷ bs) [] n has =
      own_block b n _ (has_left (frames_from n (packets_in b)) _ has) (follows_dropped bs [] (n + length (bits_of_block b)))
      (own_dropped_from bs [] (n + length (bits_of_block b)) (has_right (frames_from n (packets_in b)) _ has))
  own_dropped_from (b ∷ bs) (true ∷ keep) n has =
      own_block b n _ (has_left (frames_from n (packets_in b)) _ has) (follows_dropped bs keep (n + length (bits_of_block b)))
      (own_dropped_from bs keep (n + length (bits_of_block b)) (has_right (frames_from n (packets_in b)) _ has))
  own_dropped_from (b ∷ bs) (false ∷ keep) n has = own_dropped_from bs keep (n + length (bits_of_block b)) (has_right (frames_from n (packets_in b)) _ has)

-- ---- the theorem

pub own_dropped : (bs : List TakenBlock) (keep : List Bool) → Own (frames_in_blocks 0 bs) (resulting 0 (dropped_pieces keep bs))
own_dropped bs keep = own_dropped_from (frames_in_blocks 0 bs) bs keep 0 (λ test h. h)

-- "No frame passes but those that came whole" where whole blocks are dropped
pub dropped_blocks : (bs : List TakenBlock) (keep : List Bool) → no_other_passes (resulting 0 (dropped_pieces keep bs)) (frames_in_blocks 0 bs) ≡ true
dropped_blocks bs keep = own_passes (frames_in_blocks 0 bs) (resulting 0 (dropped_pieces keep bs)) (own_dropped bs keep)
