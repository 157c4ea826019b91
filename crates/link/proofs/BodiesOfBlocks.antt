-- No frame passes but those that came whole, told place by place: it is enough that wherever a flag, bits without six ones in a row that pass, and
-- another flag stand together, they are a frame with its own flags.
use Prim.Native.Nat.{ℕ, zero, suc, ◌+◌, ◌-◌, ◌≤◌}
use native.Mathlib.Omega.{arith}
use mathlib.Core.Bool.{Bool, true, false, not, ◌&&◌, ◌||◌, or-true, true≢false}
use mathlib.Core.List.{List, [], ◌∷◌, ◌++◌, append_assoc, tail-eq_of_cons-eq}
use mathlib.Core.Path.{◌≡◌, refl, sym, ap, ◌∙◌}
use lib.ListN.{length, take, drop, replicate, length-append, length-drop, take-append-drop}
use lib.Seq.{take-append-le, drop-drop}
use lib.Dec.{leb, eqb}
use borrow.Author.Tests.{leb-true}
use Rattle.bits.specs.Bits.{odd, low_bits, byte_bits}
use Rattle.bits.proofs.Tests.{and_both, or_right}
use Rattle.hdlc.specs.Frames.{flag}
use Rattle.hdlc.specs.Bodies.{starts_with, holds, Body, void, judge}
use Rattle.hdlc.proofs.NoSix.{NoSix}
use Rattle.hdlc.proofs.Ending.{length-flag}
use Rattle.packet.specs.Lists.{any_of, all_of}
use Rattle.framing.proofs.Void.{void_gives_nothing}
use Rattle.framing.proofs.BodiesAhead.{bodies_behind, bodies_from, bodies-from}
use Rattle.framing.proofs.FlagsAhead.{ahead, ahead_one}
use Rattle.link.specs.Demand3.{Frame, frame_length, Bit, values, begin_with, is_passed, is_frame, no_other_passes}

-- ---- frames at their places

-- the bits begin with those of a frame, which are k
unfoldable pub is_at : List Bit → ℕ → Frame → Bool
is_at bits k f = eqb k (frame_length f) && begin_with f.from (frame_length f) bits

-- if the bits begin with a flag, bits without six ones in a row that pass, and a flag, then those are a frame's
unfoldable pub OwnAt : List Frame → List Bit → Type 0
OwnAt fs bits =
    (x rest : List Bool) → values bits ≡ flag ++ (x ++ (flag ++ rest)) → NoSix x 5 → is_passed (judge x) ≡ true →
    any_of (is_at bits (length x + 16)) fs ≡ true

-- so at each place
unfoldable pub Own : List Frame → List Bit → Type 0
Own fs [] = Unit {0}
Own fs (b ∷ bits) = OwnAt fs (b ∷ bits) × Own fs bits

-- ---- bits between one flag and the next

-- bits that begin with a pattern
starts_with-take : (p s : List Bool) → starts_with p s ≡ true → take (length p) s ≡ p
unfolding starts_with
starts_with-take [] s h = refl
starts_with-take (c ∷ p) [] h = absurd (true≢false (sym h))
starts_with-take (true ∷ p) (true ∷ s) h = ap (◌∷◌ true) (starts_with-take p s h)
starts_with-take (true ∷ p) (false ∷ s) h = absurd (true≢false (sym h))
starts_with-take (false ∷ p) (true ∷ s) h = absurd (true≢false (sym h))
starts_with-take (false ∷ p) (false ∷ s) h = ap (◌∷◌ false) (starts_with-take p s h)

take-flag : (s : List Bool) → starts_with flag s ≡ true → take 8 s ≡ flag
take-flag s h = rw length-flag at (starts_with-take flag s h)

flag_first : (s : List Bool) → take 8 s ≡ flag → s ≡ flag ++ drop 8 s
flag_first s h = sym (rw h at (take-append-drop 8 s))

-- no flag begins in y, with s behind it
Quiet : List Bool → List Bool → Type 0
Quiet [] s = Unit {0}
Quiet (b ∷ y) s = (starts_with flag (b ∷ (y ++ s)) ≡ false) × Quiet y s

quiet_longer : (y : List Bool) (b : Bool) (s : List Bool) → Quiet y (b ∷ s) → starts_with flag (b ∷ s) ≡ false → Quiet (y ++ (b ∷ [])) s
unfolding Quiet
quiet_longer [] b s q e = (e, tt)
quiet_longer (c ∷ y) b s q e = (rw (append_assoc y (b ∷ []) s) q.0, quiet_longer y b s q.1 e)

-- bits that nowhere hold a pattern do not hold it behind their first bits
holds-behind : (p a b : List Bool) → holds p (a ++ b) ≡ false → holds p b ≡ false
unfolding holds
holds-behind p [] b h = h
holds-behind p (c ∷ a) b h = holds-behind p a b (or_right (starts_with p (c ∷ (a ++ b))) (holds p (a ++ b)) h)

-- a flag is a zero, six ones and a zero; behind a zero, five ones and two ones are seven in a row
pub flag_bits : (r : List Bool) → flag ++ r ≡ false ∷ (replicate 6 true ++ (false ∷ r))
unfolding flag byte_bits low_bits odd
flag_bits r = refl

six_ones : (r : List Bool) → starts_with flag (ahead 5 (true ∷ false ∷ r)) ≡ true
unfolding starts_with flag byte_bits low_bits odd
six_ones r = refl

seven_ones : (x : List Bool) → void (ahead 5 (true ∷ true ∷ x)) ≡ true
unfolding void holds starts_with
seven_ones x = refl

-- behind a zero and ones, bits before the next flag that are not void hold no six ones in a row
no_six_from : (x : List Bool) (n o : ℕ) (r : List Bool) → n + o ≡ 5 → starts_with flag (ahead o (x ++ (flag ++ r))) ≡ false
    → Quiet x (flag ++ r) → void (ahead o x) ≡ false → NoSix x n
unfolding NoSix Quiet void
no_six_from [] n o r e f q v = tt
no_six_from (false ∷ x) n o r e f q v =
    no_six_from x 5 0 r refl q.0 q.1 (holds-behind (replicate 7 true) (false ∷ replicate o true) (false ∷ x) v)
no_six_from (true ∷ x) (suc n) o r e f q v =
    no_six_from x n (suc o) r (omega arith) (rw ahead_one at f) q.1 (rw ahead_one at v)
no_six_from (true ∷ []) zero o r e f q v =
    let five : o ≡ 5 = omega arith in
    absurd (true≢false (sym (six_ones (replicate 6 true ++ (false ∷ r))) ∙ (rw (five, flag_bits) at f)))
no_six_from (true ∷ false ∷ x) zero o r e f q v =
    let five : o ≡ 5 = omega arith in
    absurd (true≢false (sym (six_ones (x ++ (flag ++ r))) ∙ (rw five at f)))
no_six_from (true ∷ true ∷ x) zero o r e f q v =
    let five : o ≡ 5 = omega arith in
    absurd (true≢false (sym (seven_ones x) ∙ (rw five at v)))

no_six_lem : (x r : List Bool) → Quiet (false ∷ x) (flag ++ r) → void x ≡ false → NoSix x 5
unfolding Quiet void holds starts_with
no_six_lem x r q v = no_six_from x 5 0 r refl q.0 q.1 v

quiet_body : (y x s : List Bool) → y ≡ replicate 6 true ++ (false ∷ x) → Quiet y s → Quiet (false ∷ x) s
unfolding Quiet
quiet_body y x s e q = (rw e at q).1.1.1.1.1.1

-- what is read up to the next flag, and that flag
between-flags : (all seen x later r : List Bool) → all ≡ seen ++ later → seen ≡ flag ++ x → later ≡ flag ++ r → all ≡ flag ++ (x ++ (flag ++ r))
between-flags all seen x later r e f g = e ∙ rw (f, g, append_assoc)

-- the bits behind one more
drop_next : (n m : ℕ) (l : List Bit) (b : Bit) (s : List Bit) → drop n l ≡ b ∷ s → m ≡ n + 1 → drop m l ≡ s
drop_next n m l b s e f = rw f (sym (drop-drop 1 n l) ∙ ap (drop 1) e)

-- ---- the bodies in bits

module _ (fs : List Frame) (bits : List Bit) where
  -- the bodies that pass are frames
  test : Body → Bool
  test b = not (is_passed (judge b.bits)) || any_of (is_frame bits b) fs

  -- a flag starts at number i, its first bit and y are read since, and s is left
  record Since (i : ℕ) (c : Bool) (y : List Bool) (s : List Bit) : Type 0 where
    own : OwnAt fs (drop i bits)
    read : values (drop i bits) ≡ c ∷ (y ++ values s)
    flagged : starts_with flag (values (drop i bits)) ≡ true
    quiet : Quiet y (values s)
    left : drop (i + suc (length y)) bits ≡ s
    later : Own fs s

  -- a flag starts at the next bit, or none does
  since_flag : (j : ℕ) (b : Bit) (s : List Bit) → drop j bits ≡ b ∷ s → Own fs (b ∷ s) → starts_with flag (values (b ∷ s)) ≡ true
      → Since j b.value [] s
  unfolding values Own Quiet
  since_flag j b s at own f =
      record {
        own = rw at own.0;
        read = ap values at;
        flagged = rw at f;
        quiet = tt;
        left = drop_next j (j + 1) bits b s at refl;
        later = own.1;
      }

  since_more : (i : ℕ) (c : Bool) (y : List Bool) (b : Bit) (s : List Bit) → Since i c y (b ∷ s) → starts_with flag (values (b ∷ s)) ≡ false
      → Since i c (y ++ (b.value ∷ [])) s
  unfolding values Own
  since_more i c y b s h f =
      record {
        own = h.own;
        read = h.read ∙ ap (◌∷◌ c) (sym (append_assoc y (b.value ∷ []) (values s)));
        flagged = h.flagged;
        quiet = quiet_longer y b.value (values s) h.quiet f;
        left = drop_next (i + suc (length y)) (i + suc (length (y ++ (b.value ∷ [])))) bits b s h.left (rw length-append (omega arith));
        later = h.later.1;
      }

  -- a flag at the next bit closes a body that is right
  right_body : (i : ℕ) (c : Bool) (y : List Bool) (s : List Bit) → Since i c y s → starts_with flag (values s) ≡ true → 8 ≤ suc (length y)
      → test (record { opening = i; closing = i + suc (length y); bits = drop 7 y }) ≡ true
  unfolding test is_frame is_at OwnAt is_passed
  right_body i c y s h f long = go (void x) refl
    where
      x : List Bool
      x = drop 7 y

      r : List Bool
      r = drop 8 (values s)

      next : values s ≡ flag ++ r
      next = flag_first (values s) (take-flag (values s) f)

      seen : c ∷ y ≡ flag ++ x
      seen =
          let front : take 8 (c ∷ (y ++ values s)) ≡ flag = rw h.read at (take-flag (values (drop i bits)) h.flagged) in
          flag_first (c ∷ y) (sym (take-append-le 8 (c ∷ y) (values s) long) ∙ front)

      calm : Quiet (false ∷ x) (flag ++ r)
      calm =
          quiet_body y x (flag ++ r) (tail-eq_of_cons-eq (seen ∙ flag_bits x)) (rw next at h.quiet)

      long_as : length x + 16 ≡ i + suc (length y) + 8 - i
      long_as = omega (arith, length-drop 7 y)

      own : NoSix x 5 → is_passed (judge x) ≡ true → any_of (is_at (drop i bits) (i + suc (length y) + 8 - i)) fs ≡ true
      own n pass = rw long_as at (h.own x r (between-flags _ (c ∷ y) x (values s) r h.read seen next) n pass)

      passed : (t : Bool) → is_passed (judge x) ≡ t → NoSix x 5 → test (record { opening = i; closing = i + suc (length y); bits = x }) ≡ true
      passed true e n = rw (own n e) (or-true (not (is_passed (judge x))))
      passed false e n = rw e

      go : (t : Bool) → void x ≡ t → test (record { opening = i; closing = i + suc (length y); bits = x }) ≡ true
      go true v = rw (void_gives_nothing x v)
      go false v = passed (is_passed (judge x)) refl (no_six_lem x r calm v)

  -- so are all bodies ahead, behind a flag or where none is read yet
  right_behind : (s : List Bit) (i : ℕ) (c : Bool) (y : List Bool) → Since i c y s → all_of test (bodies_behind (values s) i (c ∷ y)) ≡ true
  unfolding values bodies_behind all_of
  right_behind [] i c y h = refl
  right_behind (b ∷ s) i c y h =
      go (starts_with flag (values (b ∷ s))) refl
      (λ f. right_behind s (i + suc (length y)) b.value [] (since_flag (i + suc (length y)) b s h.left h.later f))
      (λ f. right_behind s i c (y ++ (b.value ∷ [])) (since_more i c y b s h f))
    where
      closes : (t : Bool) → leb 8 (suc (length y)) ≡ t → starts_with flag (values (b ∷ s)) ≡ true
          → all_of test (bodies_behind (values s) (i + suc (length y)) (b.value ∷ [])) ≡ true
          → all_of test (bodies_behind (values (b ∷ s)) i (c ∷ y)) ≡ true
      closes true l f later = rw (f, l) (and_both _ _ (right_body i c y (b ∷ s) h f (leb-true 8 (suc (length y)) l)) later)
      closes false l f later = rw (f, l) later

      go : (t : Bool) → starts_with flag (values (b ∷ s)) ≡ t
          → (starts_with flag (values (b ∷ s)) ≡ true → all_of test (bodies_behind (values s) (i + suc (length y)) (b.value ∷ [])) ≡ true)
          → (starts_with flag (values (b ∷ s)) ≡ false → all_of test (bodies_behind (values s) i (c ∷ (y ++ (b.value ∷ [])))) ≡ true)
          → all_of test (bodies_behind (values (b ∷ s)) i (c ∷ y)) ≡ true
      go true f flagged unflagged = closes (leb 8 (suc (length y))) refl f (flagged f)
      go false f flagged unflagged = rw f (unflagged f)

  right_from : (s : List Bit) (n : ℕ) → drop n bits ≡ s → Own fs s → all_of test (bodies_from (values s) n) ≡ true
  unfolding values bodies_from all_of Own
  right_from [] n at own = refl
  right_from (b ∷ s) n at own =
      go (starts_with flag (values (b ∷ s))) refl (right_from s (suc n) (drop_next n (suc n) bits b s at (omega arith)) own.1)
    where
      go : (t : Bool) → starts_with flag (values (b ∷ s)) ≡ t → all_of test (bodies_from (values s) (suc n)) ≡ true
          → all_of test (bodies_from (values (b ∷ s)) n) ≡ true
      go true f later = rw f (right_behind s n b.value [] (since_flag n b s at own f))
      go false f later = rw f later

-- the bodies that pass are frames if each place is right
pub own_passes : (fs : List Frame) (bits : List Bit) → Own fs bits → no_other_passes bits fs ≡ true
unfolding no_other_passes test
own_passes fs bits own = rw bodies-from (right_from fs bits bits 0 refl own)
