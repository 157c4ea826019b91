-- Stuffed bits read in a body: nothing is closed, the bits kept and held back are the bits before stuffing, and the flag behind
-- them closes one body of just those bits.
use Prim.Native.Nat.{ℕ, zero, suc, ◌+◌, ◌≤◌, ◌<◌}
use mathlib.Core.Bool.{Bool, true, false, cond}
use mathlib.Core.List.{List, [], ◌∷◌, ◌++◌, append_assoc, append-nil}
use mathlib.Core.Path.{◌≡◌, refl, sym, ap, ◌∙◌}
use native.Mathlib.Numerals.{add-one}
use native.Mathlib.Omega.{arith}
use lib.ListN.{length, replicate, length-append, replicate-append-replicate}
use lib.Seq.{append_snoc}
use lib.Dec.{eqb}
use borrow.Author.Tests.{lt-leb, ne_eqb}
use Rattle.bits.specs.Bits.{odd, low_bits, byte_bits}
use Rattle.hdlc.specs.Stuffing.{stuff_from, free_after, stuff}
use Rattle.hdlc.specs.Frames.{flag}
use Rattle.hdlc.proofs.Ending.{length-flag}
use Rattle.framing.specs.declared.Framing.{Framing}
use Rattle.framing.specs.Machine.{empty, phase_after, step, run, closes}
use Rattle.framing.specs.Closings.{closed, closings}
use Rattle.framing.proofs.Framed.{framed, held_bits, framed_empty, phase_framed, ones_framed, step_one, step-zero}
use Rattle.framing.proofs.Runs.{closings_append}
use Rattle.framing.proofs.Resync.{closings_ones}

-- the framing is in a body whose unstuffed bits, kept and held back, are y, and `free` more ones may come before the one
-- behind which a 0 is dropped
pub record InBody (free : ℕ) (y : List Bool) (f : Framing) : Type 0 where
  pub phase : ℕ
  pub ones : ℕ
  pub kept : List Bool
  pub is : f ≡ framed (suc (suc phase)) ones kept
  pub few : ones + free ≡ 4
  pub bits : kept ++ held_bits (suc (suc phase)) ones ≡ y

-- a flag opens an empty body
pub InBody-opened : InBody 4 [] (empty 2)
unfolding held_bits
InBody-opened = record { phase = 0; ones = 0; kept = []; is = framed_empty 2; few = refl; bits = refl }

-- a zero behind fewer than five ones is plain
phase_after_few : (o : ℕ) → o < 5 → phase_after o ≡ 3
unfolding phase_after
phase_after_few o h = let other : o ≡ 5 → ⊥ = omega arith in rw (ne_eqb o 5 other)

-- one more one is held back
pub held_bits-suc : (p o : ℕ) → held_bits p (suc o) ≡ held_bits p o ++ (true ∷ [])
unfolding held_bits
held_bits-suc p o = go (eqb p 3)
  where
    snoc : replicate (suc o) true ≡ replicate o true ++ (true ∷ [])
    snoc = ap (λ n. replicate n true) (sym (add-one o)) ∙ sym (replicate-append-replicate o 1 true)

    go : (t : Bool) →
        cond t (false ∷ replicate (suc o) true) (replicate (suc o) true) ≡
        cond t (false ∷ replicate o true) (replicate o true) ++ (true ∷ [])
    go true = ap (◌∷◌ false) snoc
    go false = snoc

module _ (free : ℕ) (y : List Bool) (f : Framing) where
  -- a one that is not the fifth
  InBody_one : InBody (suc free) y f → InBody free (y ++ (true ∷ [])) (step f true)
  InBody_one b =
      let few : b.ones + suc free ≡ 4 = b.few in
      record {
        phase = b.phase;
        ones = suc b.ones;
        kept = b.kept;
        is = ap (λ g. step g true) b.is ∙ step_one (suc b.phase) b.ones b.kept (omega arith);
        few = omega arith;
        bits = rw (held_bits-suc, ← append_assoc, b.bits);
      }

  -- a plain zero: all bits before it are kept, and it is held back
  pub step_body_zero : InBody free y f → step f false ≡ framed 3 0 y
  step_body_zero b =
      let few : b.ones + free ≡ 4 = b.few in
      let p : ℕ = suc (suc b.phase) in
      ap (λ g. step g false) b.is ∙ step-zero p b.ones b.kept (omega arith) (omega arith)
      ∙ rw (phase_after_few b.ones (omega arith), b.bits)

-- a fifth one and the zero behind it, which is dropped
pub step_body_fifth : (y : List Bool) (f : Framing) → InBody 0 y f → step (step f true) false ≡ framed 4 0 (y ++ (true ∷ []))
unfolding phase_after
step_body_fifth y f b =
    let few : b.ones + 0 ≡ 4 = b.few in
    let p : ℕ = suc (suc b.phase) in
    let four : b.ones ≡ 4 = omega arith in
    ap (λ g. step (step g true) false) b.is ∙ ap (λ g. step g false) (step_one (suc b.phase) b.ones b.kept (omega arith))
    ∙ step-zero p (suc b.ones) b.kept (omega arith) (omega arith)
    ∙ rw (held_bits-suc, ← append_assoc, b.bits, four)

-- the same bits, now in the body
InBody-zero : (free : ℕ) (y : List Bool) (f : Framing) → InBody free y f → InBody 4 (y ++ (false ∷ [])) (step f false)
unfolding held_bits
InBody-zero free y f b = record { phase = 1; ones = 0; kept = y; is = step_body_zero free y f b; few = refl; bits = refl }

InBody_fifth : (y : List Bool) (f : Framing) → InBody 0 y f → InBody 4 (y ++ (true ∷ [])) (step (step f true) false)
unfolding held_bits
InBody_fifth y f b =
    record { phase = 2; ones = 0; kept = y ++ (true ∷ []); is = step_body_fifth y f b; few = refl; bits = append-nil (y ++ (true ∷ [])) }

-- bits written otherwise
InBody_same : {free : ℕ} {y z : List Bool} {f : Framing} → y ≡ z → InBody free y f → InBody free z f
InBody_same e b = record { phase = b.phase; ones = b.ones; kept = b.kept; is = b.is; few = b.few; bits = b.bits ∙ e }

-- stuffed bits read: the bits before stuffing are there
pub InBody-stuff_from : (bs : List Bool) (free : ℕ) (y : List Bool) (f : Framing) → InBody free y f →
    InBody (free_after bs free) (y ++ bs) (run f (stuff_from bs free))
unfolding stuff_from free_after run
InBody-stuff_from [] free y f b = InBody_same (sym (append-nil y)) b
InBody-stuff_from (false ∷ bs) free y f b =
    InBody_same (append_snoc y false bs) (InBody-stuff_from bs 4 (y ++ (false ∷ [])) (step f false) (InBody-zero free y f b))
InBody-stuff_from (true ∷ bs) zero y f b =
    InBody_same (append_snoc y true bs) (InBody-stuff_from bs 4 (y ++ (true ∷ [])) (step (step f true) false) (InBody_fifth y f b))
InBody-stuff_from (true ∷ bs) (suc free) y f b =
    InBody_same (append_snoc y true bs) (InBody-stuff_from bs free (y ++ (true ∷ [])) (step f true) (InBody_one free y f b))

-- behind fewer than six ones no bit closes a body
closings_few : (f : Framing) (n : ℕ) (b : Bool) (bs : List Bool) → f.ones < 6 →
    closings f n (b ∷ bs) ≡ closings (step f b) (suc n) bs
unfolding closings closes
closings_few f n true bs h = refl
closings_few f n false bs h = rw (lt-leb 6 f.ones h)

-- nor are there six in a body, also behind its next one
ones_body : (free : ℕ) (y : List Bool) (f : Framing) → InBody free y f → f.ones < 6
ones_body free y f b =
    let few : b.ones + free ≡ 4 = b.few in
    rw (b.is, ones_framed (suc (suc b.phase)) b.ones b.kept) (omega arith)

ones_body_one : (free : ℕ) (y : List Bool) (f : Framing) → InBody free y f → (step f true).ones < 6
ones_body_one free y f b =
    let few : b.ones + free ≡ 4 = b.few in
    rw (b.is, step_one (suc b.phase) b.ones b.kept (omega arith), ones_framed (suc (suc b.phase)) (suc b.ones) b.kept)
    (omega arith)

-- stuffed bits close nothing
pub closings-stuff_from : (bs : List Bool) (free : ℕ) (y : List Bool) (f : Framing) (n : ℕ) → InBody free y f →
    closings f n (stuff_from bs free) ≡ []
unfolding stuff_from closings
closings-stuff_from [] free y f n b = refl
closings-stuff_from (false ∷ bs) free y f n b =
    closings_few f n false (stuff_from bs 4) (ones_body free y f b)
    ∙ closings-stuff_from bs 4 (y ++ (false ∷ [])) (step f false) (suc n) (InBody-zero free y f b)
closings-stuff_from (true ∷ bs) zero y f n b =
    closings_few f n true (false ∷ stuff_from bs 4) (ones_body 0 y f b)
    ∙ closings_few (step f true) (suc n) false (stuff_from bs 4) (ones_body_one 0 y f b)
    ∙ closings-stuff_from bs 4 (y ++ (true ∷ [])) (step (step f true) false) (suc (suc n)) (InBody_fifth y f b)
closings-stuff_from (true ∷ bs) (suc free) y f n b =
    closings_few f n true (stuff_from bs free) (ones_body (suc free) y f b)
    ∙ closings-stuff_from bs free (y ++ (true ∷ [])) (step f true) (suc n) (InBody_one free y f b)

-- ones behind a zero are counted
pub run_framed_ones : (k p o : ℕ) (x : List Bool) → o + k ≤ 6 → run (framed (suc p) o x) (replicate k true) ≡ framed (suc p) (o + k) x
unfolding run
run_framed_ones zero p o x h = let e : o ≡ o + 0 = omega arith in ap (λ n. framed (suc p) n x) e
run_framed_ones (suc k) p o x h =
    let e : suc o + k ≡ o + suc k = omega arith in
    ap (λ f. run f (replicate k true)) (step_one p o x (omega arith)) ∙ run_framed_ones k p (suc o) x (omega arith)
    ∙ ap (λ n. framed (suc p) n x) e

-- a zero behind six ones closes a body
closings_end : (x : List Bool) (n : ℕ) → closings (framed 3 6 x) n (false ∷ []) ≡ closed (framed 3 6 x) (suc n) ∷ []
unfolding closings closes
closings_end x n = rw (phase_framed 3 6 x, ones_framed 3 6 x)

-- a flag closes the body
closings-flag : (free : ℕ) (y : List Bool) (f : Framing) (n : ℕ) → InBody free y f →
    closings f n flag ≡ closed (framed 3 6 y) (n + 8) ∷ []
unfolding flag byte_bits low_bits odd
closings-flag free y f n b =
    let e : suc (suc n + 6) ≡ n + 8 = omega arith in
    closings_few f n false (replicate 6 true ++ (false ∷ [])) (ones_body free y f b)
    ∙ ap (λ g. closings g (suc n) (replicate 6 true ++ (false ∷ []))) (step_body_zero free y f b)
    ∙ closings_append (replicate 6 true) (false ∷ []) (framed 3 0 y) (suc n)
    ∙ rw (closings_ones 6 (framed 3 0 y) (suc n), run_framed_ones 6 2 0 y (omega arith), closings_end y (suc n + 6), e)

-- stuffed bits between two flags: one body, with the last bit, of just the bits before stuffing
pub closings-stuff-flag : (bs : List Bool) (n : ℕ) →
    closings (empty 2) n (stuff bs ++ flag) ≡ closed (framed 3 6 bs) (n + length (stuff bs ++ flag)) ∷ []
unfolding stuff
closings-stuff-flag bs n =
    let s : List Bool = stuff_from bs 4 in
    let b : InBody (free_after bs 4) bs (run (empty 2) s) = InBody-stuff_from bs 4 [] (empty 2) InBody-opened in
    let e : n + length s + 8 ≡ n + length (s ++ flag) = rw (length-append s flag) (omega (arith, length-flag)) in
    closings_append s flag (empty 2) n
    ∙ rw (closings-stuff_from bs 4 [] (empty 2) n InBody-opened, closings-flag (free_after bs 4) bs (run (empty 2) s) (n + length s) b, e)
