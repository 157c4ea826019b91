-- Where nothing is replaced every frame comes whole, and no packet that was placed is lost.
use Prim.Native.Nat.{ℕ, zero, suc, ◌+◌, ◌≤◌}
use native.Mathlib.Nat.{zero-add, add-zero}
use native.Mathlib.Omega.{arith}
use mathlib.Core.Bool.{Bool, true, false, not, ◌&&◌, ◌||◌, or-true, and-true, true≢false}
use mathlib.Core.List.{List, [], ◌∷◌, ◌++◌, map, append-nil}
use mathlib.Core.Path.{◌≡◌, refl, sym, ap, subst, ◌∙◌}
use lib.ListN.{length, length-take, length-drop}
use lib.Dec.{eqb}
use borrow.Author.Tests.{eq-eqb}
use Rattle.bits.proofs.Tests.{and_left, and_right, and_both}
use Rattle.packet.specs.declared.Circuit.{Circuit}
use Rattle.packet.specs.Lists.{any_of, all_of, those, AllAre}
use Rattle.queues.specs.Queues.{Copy}
use Rattle.queues.specs.Sent.{placed_at, each_once, frames_of}
use Rattle.packet.proofs.Choices.{cond_either}
use Rattle.link.specs.Demand3.{Piece, kept, replaced, originals, Pass, joined_bits, blocks, Frame, frame_length, frames, kept_bits, resulting, result, begin_with, together, came_whole, is_copy_of, comes, came, from_first, up_to_last, from_first_to_last, lost, at_most_six_lost}
use Rattle.link.specs.Channels.{Clean}
use Rattle.link.proofs.ResultingBits.{kept_bits_append, begins_kept, row_together}
use Rattle.link.proofs.SamePackets.{frame_length-pos}
use Rattle.link.proofs.CopiesThinned.{Arrival, copies_in, comes_in}
use Rattle.link.proofs.SentAt.{arrives_blocks}
use Rattle.link.proofs.Steps.{LaidAt, Laid}
use Rattle.link.proofs.Gaps.{gaps, gaps_worded}

-- ---- bits that are kept lie together

together-kept : (i k m : ℕ) (bs : List Bool) → i + k ≤ length bs → together (m + i) k (kept_bits m bs) ≡ true
unfolding together kept_bits
together-kept zero k m bs h = rw add-zero (row_together 0 (kept_bits m bs) m k (rw append-nil at (begins_kept k m bs [] (omega arith))))
together-kept (suc i) k m [] h = absurd (omega arith)
together-kept (suc i) k m (b ∷ bs) h =
    let e : m + suc i ≡ suc m + i = omega arith in
    subst (λ n. together n k (kept_bits m (b ∷ bs)) ≡ true) (sym e)
    (ap (◌||◌ (begin_with (suc m + i) k (kept_bits m (b ∷ bs)))) (together-kept i k (suc m) bs (omega arith)) ∙ or-true _)

-- ---- a frame that lies in the bits

laid_inside : (bits : List Bool) (f : Frame) → LaidAt bits f → f.from + frame_length f ≤ length bits
unfolding frame_length
laid_inside bits f h = omega (arith, frame_length-pos f, simp (length-take, length-drop) at (ap length h.there))

came_whole-kept : (bits : List Bool) (f : Frame) → LaidAt bits f → came_whole (kept_bits 0 bits) f ≡ true
unfolding came_whole
came_whole-kept bits f h = rw zero-add at (together-kept f.from (frame_length f) 0 bits (laid_inside bits f h))

-- a test that every frame there passes tells nothing beside another
module _ (bits : List Bool) (test : Frame → Bool) (pass : (f : Frame) → LaidAt bits f → test f ≡ true) where
  any_of_laid : (other : Frame → Bool) (fs : List Frame) → Laid bits fs → any_of (λ f. other f && test f) fs ≡ any_of other fs
  unfolding any_of AllAre
  any_of_laid other [] h = refl
  any_of_laid other (f ∷ fs) h = rw (pass f h.0, and-true, any_of_laid other fs h.1)

-- ---- tests that all pass

-- of a weaker test, of those that pass another one, and of the answers
module _ {A : Type 0} (test : A → Bool) where
  all_of_weaker : (stronger : A → Bool) → ((x : A) → stronger x ≡ true → test x ≡ true) → (xs : List A) → all_of stronger xs ≡ true
      → all_of test xs ≡ true
  unfolding all_of
  all_of_weaker stronger h [] e = refl
  all_of_weaker stronger h (x ∷ xs) e =
      and_both (test x) (all_of test xs) (h x (and_left (stronger x) (all_of stronger xs) e))
      (all_of_weaker stronger h xs (and_right (stronger x) (all_of stronger xs) e))

  all_of-those : (other : A → Bool) (xs : List A) → all_of test xs ≡ true → all_of test (those other xs) ≡ true
  unfolding all_of those
  all_of-those other [] e = refl
  all_of-those other (x ∷ xs) e =
      let later : all_of test (those other xs) ≡ true = all_of-those other xs (and_right (test x) (all_of test xs) e) in
      cond_either (λ l. all_of test (l ++ those other xs) ≡ true) (other x) _ _
      (λ _. and_both (test x) (all_of test (those other xs)) (and_left (test x) (all_of test xs) e) later) (λ _. later)

  all_of-map : (xs : List A) → all_of (λ b. b) (map test xs) ≡ all_of test xs
  unfolding all_of
  all_of-map [] = refl
  all_of-map (x ∷ xs) = rw (all_of-map xs)

-- of the numbers, each once
all_of-each_once : (test : ℕ → Bool) (cs : List Copy) → all_of (λ (c : Copy). test c.number) cs ≡ true → all_of test (each_once cs) ≡ true
unfolding all_of each_once
all_of-each_once test [] e = refl
all_of-each_once test (c ∷ cs) e =
    let later : all_of test (each_once cs) ≡ true = all_of-each_once test cs (and_right (test c.number) _ e) in
    and_both (test c.number) _ (and_left (test c.number) _ e) (all_of-those test (λ i. not (eqb i c.number)) (each_once cs) later)

-- all came: nothing is lost
lost-up_to_last : (bs : List Bool) → all_of (λ b. b) bs ≡ true → lost (up_to_last bs) ≡ 0
unfolding all_of up_to_last lost
lost-up_to_last [] e = refl
lost-up_to_last (true ∷ bs) e = lost-up_to_last bs e
lost-up_to_last (false ∷ bs) e = absurd (true≢false (sym e))

lost_all : (bs : List Bool) → all_of (λ b. b) bs ≡ true → lost (from_first_to_last bs) ≡ 0
unfolding all_of from_first_to_last from_first
lost_all [] e = lost-up_to_last [] e
lost_all (true ∷ bs) e = lost-up_to_last (true ∷ bs) e
lost_all (false ∷ bs) e = absurd (true≢false (sym e))

gaps_all : (bs : List Bool) (seen : Bool) → all_of (λ b. b) bs ≡ true → gaps seen 0 bs ≡ true
unfolding all_of gaps
gaps_all [] seen e = refl
gaps_all (true ∷ bs) seen e = rw (or-true, gaps_all bs true e)
gaps_all (false ∷ bs) seen e = absurd (true≢false (sym e))

-- where all copies placed came whole, the packet of each comes
comes_in_all : (l : List Arrival) → all_of (λ (a : Arrival). a.whole) l ≡ true → all_of (λ (c : Copy). comes_in l c.number) (copies_in l) ≡ true
unfolding all_of comes_in
comes_in_all [] e = refl
comes_in_all (a ∷ l) e =
    and_both (comes_in (a ∷ l) a.copy.number) _ (rw (eq-eqb a.copy.number a.copy.number refl, and_left a.whole _ e))
    (all_of_weaker (λ (c : Copy). comes_in (a ∷ l) c.number) (λ (c : Copy). comes_in l c.number) (λ c h. rw (h, or-true)) (copies_in l)
    (comes_in_all l (and_right a.whole _ e)))

-- ---- the clean channel

-- all bits are kept
resulting_clean : (pieces : List Piece) (n : ℕ) → Clean pieces → resulting n pieces ≡ kept_bits n (originals pieces)
unfolding Clean resulting originals kept_bits
resulting_clean [] n clean = refl
resulting_clean (kept bits ∷ pieces) n clean =
    rw (resulting_clean pieces (n + length bits) clean) (sym (kept_bits_append bits (originals pieces) n))
resulting_clean (replaced old new ∷ pieces) n clean = absurd clean

module _ (p : Pass) (clean : Clean p.pieces) (joined : originals p.pieces ≡ joined_bits p) where
  result_clean : result p ≡ kept_bits 0 (joined_bits p)
  unfolding result
  result_clean = resulting_clean p.pieces 0 clean ∙ ap (kept_bits 0) joined

  -- every frame comes whole
  came_whole_clean : (f : Frame) → LaidAt (joined_bits p) f → came_whole (result p) f ≡ true
  came_whole_clean f h = rw result_clean (came_whole-kept (joined_bits p) f h)

  module _ (laid : Laid (joined_bits p) (frames p)) where
    -- a packet comes if a copy of it was placed
    pub comes_clean : (k : Circuit) (i : ℕ) → comes p k i ≡ any_of (λ f. is_copy_of k i f.whose) (frames p)
    unfolding comes
    comes_clean k i = any_of_laid (joined_bits p) (came_whole (result p)) came_whole_clean (λ f. is_copy_of k i f.whose) (frames p) laid

    -- so all that were placed come
    came_clean : (k : Circuit) → all_of (λ b. b) (came p k) ≡ true
    unfolding came frames
    came_clean k =
        let a = arrives_blocks k (λ f. true) (blocks p) 0 in
        let arrives : (i : ℕ) → comes p k i ≡ comes_in a.arrivals i =
        λ i. comes_clean k i ∙ sym (any_of_laid (joined_bits p) (λ f. true) (λ f h. refl) (λ f. is_copy_of k i f.whose) (frames p) laid) ∙ a.comes i in
        rw (all_of-map (comes p k) (each_once (placed_at k (frames_of (blocks p)))), ← a.copies)
        (all_of-each_once (comes p k) (copies_in a.arrivals)
        (all_of_weaker (λ (c : Copy). comes p k c.number) (λ (c : Copy). comes_in a.arrivals c.number) (λ c h. arrives c.number ∙ h)
        (copies_in a.arrivals) (comes_in_all a.arrivals (a.wholes (λ f. refl)))))

    -- and none is lost
    pub lost_clean : (k : Circuit) → lost (from_first_to_last (came p k)) ≡ 0
    lost_clean k = lost_all (came p k) (came_clean k)

    pub at_most_six_lost_clean : (k : Circuit) → at_most_six_lost (came p k) ≡ true
    at_most_six_lost_clean k = gaps_worded (came p k) (gaps_all (came p k) false (came_clean k))
