-- A stretch of bits read at once, where with the ones before it no six ones stand in a row: a scan passes over it, and it leaves what its bits leave one by one.
use Prim.Native.Nat.{ℕ, zero, suc, ◌+◌, ◌-◌, ◌≤◌, ◌<◌}
use mathlib.Core.Bool.{Bool, true, false, cond}
use mathlib.Core.List.{List, [], ◌∷◌, ◌++◌, append_assoc, append-nil}
use mathlib.Core.Logic.{◌⊎◌, inl, inr}
use mathlib.Core.Path.{◌≡◌, refl, sym, ap, ◌∙◌}
use native.Mathlib.Omega.{arith}
use lib.ListN.{length, take, drop, replicate, take-append-drop}
use lib.Seq.{slice, append_snoc, drop-drop}
use lib.Dec.{leb, eqb}
use borrow.Author.Tests.{lt-leb, eqb-true, eqb-false, ne_eqb}
use Rattle.bits.proofs.Tests.{and_right}
use Rattle.hdlc.specs.Stuffing.{unstuff_from, end_ones}
use Rattle.words.specs.Runs.{no_six}
use Rattle.words.proofs.Numbers.{take-drop-take}
use Rattle.words.proofs.Pieces.{Piece, none, fifth, one, zeroed, piece_long, no_six_le}
use Rattle.framing.specs.declared.Framing.{Framing}
use Rattle.scanning.specs.Ahead.{ReadAhead}
use Rattle.framing.specs.Machine.{fresh, phase_after, step, run, closes}
use Rattle.framing.specs.Range.{LeftBy}
use Rattle.framing.specs.Scanning.{scan}
use Rattle.framing.proofs.Framed.{framed, held_bits, framed_empty, step_one, step-zero, step-zero_hunting, step-fresh_one, phase_after_inside}
use Rattle.framing.proofs.Resync.{Behind, Behind-true, Behind-false}
use Rattle.framing.proofs.ScanInRange.{LeftBy-run}
use Rattle.framing.proofs.Stuffed.{held_bits-suc}

-- ---- a scan passes over them, from any framing behind a zero

no_six_one : (bs : List Bool) (o : ℕ) → no_six (true ∷ bs) o ≡ true → no_six bs (suc o) ≡ true
unfolding no_six
no_six_one bs o h = h

no_six-zero : (bs : List Bool) (o : ℕ) → no_six (false ∷ bs) o ≡ true → no_six bs 0 ≡ true
unfolding no_six
no_six-zero bs o h = and_right (leb o 5) (no_six bs 0) h

-- behind fewer than six ones a bit closes nothing
scan_over : (f : Framing) (at : ℕ) (b : Bool) (bs : List Bool) → f.ones < 6 → scan f at (b ∷ bs) ≡ scan (step f b) (suc at) bs
unfolding scan closes
scan_over f at true bs h = refl
scan_over f at false bs h = rw (lt-leb 6 f.ones h)

pub scan-past : (bs cs : List Bool) (f : Framing) (o at : ℕ) → Behind o f → no_six bs o ≡ true →
    scan f at (bs ++ cs) ≡ scan (run f bs) (at + length bs) cs
unfolding run
scan-past [] cs f o at b h = let e : at ≡ at + 0 = omega arith in ap (λ n. scan f n cs) e
scan-past (true ∷ bs) cs f o at b h =
    let l : o ≤ 5 = no_six_le (true ∷ bs) o h in
    let e : suc at + length bs ≡ at + suc (length bs) = omega arith in
    scan_over f at true (bs ++ cs) (omega (arith, b.ones))
    ∙ scan-past bs cs (step f true) (suc o) (suc at) (Behind-true o f (omega arith) b) (no_six_one bs o h)
    ∙ ap (λ n. scan (run (step f true) bs) n cs) e
scan-past (false ∷ bs) cs f o at b h =
    let l : o ≤ 5 = no_six_le (false ∷ bs) o h in
    let e : suc at + length bs ≡ at + suc (length bs) = omega arith in
    scan_over f at false (bs ++ cs) (omega (arith, b.ones))
    ∙ scan-past bs cs (step f false) 0 (suc at) (Behind-false f) (no_six-zero bs o h)
    ∙ ap (λ n. scan (run (step f false) bs) n cs) e

-- ---- what they leave in a body

-- the phase behind bits: that of the last zero, or p where there is none
unfoldable pub phase_behind : List Bool → ℕ → ℕ → ℕ
phase_behind [] p o = p
phase_behind (true ∷ bs) p o = phase_behind bs p (suc o)
phase_behind (false ∷ bs) p o = phase_behind bs (phase_after o) 0

-- the bits kept behind bits, x being those before
unfoldable pub kept_behind : List Bool → ℕ → ℕ → List Bool → List Bool
kept_behind [] p o x = x
kept_behind (true ∷ bs) p o x = kept_behind bs p (suc o) x
kept_behind (false ∷ bs) p o x = kept_behind bs (phase_after o) 0 (x ++ held_bits p o)

-- a one in a body
step_one_in : (p o : ℕ) (x : List Bool) → 1 < p → o < 6 → step (framed p o x) true ≡ framed p (suc o) x
step_one_in zero o x b h = absurd (omega arith)
step_one_in (suc p) o x b h = step_one p o x h

inside : (o : ℕ) → 1 < phase_after o
inside o = omega (arith, phase_after_inside o)

pub run_body : (bs : List Bool) (p o : ℕ) (x : List Bool) → 1 < p → no_six bs o ≡ true →
    run (framed p o x) bs ≡ framed (phase_behind bs p o) (end_ones bs o) (kept_behind bs p o x)
unfolding run phase_behind end_ones kept_behind
run_body [] p o x b h = refl
run_body (true ∷ bs) p o x b h =
    let l : o ≤ 5 = no_six_le (true ∷ bs) o h in
    ap (λ f. run f bs) (step_one_in p o x b (omega arith)) ∙ run_body bs p (suc o) x b (no_six_one bs o h)
run_body (false ∷ bs) p o x b h =
    let l : o ≤ 5 = no_six_le (false ∷ bs) o h in
    ap (λ f. run f bs) (step-zero p o x b (omega arith))
    ∙ run_body bs (phase_after o) 0 (x ++ held_bits p o) (inside o) (no_six-zero bs o h)

-- ---- the bits kept and held back are those before, and the new ones unstuffed

unstuff_one : (o : ℕ) (bs : List Bool) → o ≤ 4 → unstuff_from (true ∷ bs) (5 - o) ≡ true ∷ unstuff_from bs (5 - suc o)
unfolding unstuff_from
unstuff_one o bs h = let e : 5 - o ≡ suc (5 - suc o) = omega arith in rw e

unstuff-plain : (o : ℕ) (bs : List Bool) → o ≤ 4 → unstuff_from (false ∷ bs) (5 - o) ≡ false ∷ unstuff_from bs 5
unfolding unstuff_from
unstuff-plain o bs h = let e : 5 - o ≡ suc (5 - suc o) = omega arith in rw e

unstuff_dropped : (o : ℕ) (bs : List Bool) → o ≡ 5 → unstuff_from (false ∷ bs) (5 - o) ≡ unstuff_from bs 5
unfolding unstuff_from
unstuff_dropped o bs h = rw h

zero_held : (o : ℕ) (bs : List Bool) → o ≤ 5 → held_bits (phase_after o) 0 ++ unstuff_from bs 5 ≡ unstuff_from (false ∷ bs) (5 - o)
unfolding held_bits phase_after
zero_held o bs h = go (eqb o 5) refl
  where
    go : (t : Bool) → eqb o 5 ≡ t → cond (eqb (cond t 4 3) 3) (false ∷ []) [] ++ unstuff_from bs 5 ≡ unstuff_from (false ∷ bs) (5 - o)
    go true e = sym (unstuff_dropped o bs (eqb-true o 5 e))
    go false e =
        let other : o ≡ 5 → ⊥ = eqb-false o 5 e in
        sym (unstuff-plain o bs (omega arith))

unstuff-none : (x : List Bool) (d : ℕ) → x ++ unstuff_from [] d ≡ x
unfolding unstuff_from
unstuff-none x d = append-nil x

pub kept_unstuffed : (bs : List Bool) (p o : ℕ) (x : List Bool) → no_six bs o ≡ true →
    kept_behind bs p o x ++ held_bits (phase_behind bs p o) (end_ones bs o) ≡ (x ++ held_bits p o) ++ unstuff_from bs (5 - o)
unfolding kept_behind phase_behind end_ones
kept_unstuffed [] p o x h = sym (unstuff-none (x ++ held_bits p o) (5 - o))
kept_unstuffed (true ∷ bs) p o x h =
    let l : suc o ≤ 5 = no_six_le bs (suc o) (no_six_one bs o h) in
    kept_unstuffed bs p (suc o) x (no_six_one bs o h)
    ∙ rw (held_bits-suc, unstuff_one o bs (omega arith), ← append_assoc x (held_bits p o) (true ∷ []), append_snoc (x ++ held_bits p o) true (unstuff_from bs (5 - suc o)))
kept_unstuffed (false ∷ bs) p o x h =
    let l : o ≤ 5 = no_six_le (false ∷ bs) o h in
    kept_unstuffed bs (phase_after o) 0 (x ++ held_bits p o) (no_six-zero bs o h)
    ∙ rw (append_assoc (x ++ held_bits p o) (held_bits (phase_after o) 0) (unstuff_from bs 5), zero_held o bs l)

-- ---- up to the fifth one in a row: the phase

phase_few : (o : ℕ) → o ≤ 4 → phase_after o ≡ 3
unfolding phase_after
phase_few o h = let other : o ≡ 5 → ⊥ = omega arith in rw (ne_eqb o 5 other)

phase_plain : {bs c : List Bool} {o : ℕ} → Piece bs o c → o ≤ 4 → phase_behind c 3 o ≡ 3
unfolding phase_behind
phase_plain (none o) h = refl
phase_plain (fifth bs) h = refl
phase_plain (one bs c o l q) h = phase_plain q (omega arith)
phase_plain (zeroed bs c o q) h = ap (λ (p : ℕ). phase_behind c p 0) (phase_few o h) ∙ phase_plain q (omega arith)

pub phase_piece : {bs c : List Bool} {o : ℕ} (p : ℕ) → Piece bs o c → o ≤ 4 → 5 < o + length bs → phase_behind c p o ≡ cond (eqb (length c + o) 5) p 3
unfolding phase_behind
phase_piece p (none o) h l = absurd (omega arith)
phase_piece p (fifth bs) h l = refl
phase_piece p (one bs c o m q) h l =
    let e : length c + suc o ≡ suc (length c) + o = omega arith in
    phase_piece p q (omega arith) (omega arith) ∙ ap (λ (n : ℕ). cond (eqb n 5) p 3) e
phase_piece p (zeroed bs c o q) h l =
    let more : suc (length c) + o ≡ 5 → ⊥ = go (piece_long q) in
    ap (λ (r : ℕ). phase_behind c r 0) (phase_few o h) ∙ phase_plain q (omega arith) ∙ rw (ne_eqb (suc (length c) + o) 5 more)
  where
    go : (length c ≡ length bs) ⊎ (5 ≤ 0 + length c) → suc (length c) + o ≡ 5 → ⊥
    go (inl e) z = omega arith
    go (inr e) z = omega arith

-- ---- outside a body

pub run_hunting : (bs : List Bool) (o : ℕ) → no_six bs o ≡ true → run (framed 1 o []) bs ≡ framed 1 (end_ones bs o) []
unfolding run end_ones
run_hunting [] o h = refl
run_hunting (true ∷ bs) o h =
    let l : o ≤ 5 = no_six_le (true ∷ bs) o h in
    ap (λ f. run f bs) (step_one 0 o [] (omega arith)) ∙ run_hunting bs (suc o) (no_six_one bs o h)
run_hunting (false ∷ bs) o h =
    let l : o ≤ 5 = no_six_le (false ∷ bs) o h in
    ap (λ f. run f bs) (step-zero_hunting o [] (omega arith) ∙ framed_empty 1) ∙ run_hunting bs 0 (no_six-zero bs o h)

-- before any zero
pub scan_ones : (n : ℕ) (cs : List Bool) (at : ℕ) → scan fresh at (replicate n true ++ cs) ≡ scan fresh (at + n) cs
unfolding scan closes
scan_ones zero cs at = let e : at ≡ at + 0 = omega arith in ap (λ k. scan fresh k cs) e
scan_ones (suc n) cs at =
    let e : suc at + n ≡ at + suc n = omega arith in
    ap (λ f. scan f (suc at) (replicate n true ++ cs)) step-fresh_one ∙ scan_ones n cs (suc at) ∙ ap (λ k. scan fresh k cs) e

-- ---- a stretch of lent bits

pub slice_split : (bits : List Bool) (at n to : ℕ) → at + n ≤ to → slice at to bits ≡ take n (drop at bits) ++ slice (at + n) to bits
slice_split bits at n to h =
    sym (take-append-drop n (drop at (take to bits)))
    ∙ (λ i. take-drop-take n at to bits h i ++ drop-drop n at (take to bits) i)

-- read at once, where a scan passes over it
pub ahead : (f : Framing) (bits : List Bool) (from n to : ℕ) → LeftBy f → from + n ≤ to → to ≤ length bits →
    ((cs : List Bool) → scan f from (take n (drop from bits) ++ cs) ≡ scan (run f (take n (drop from bits))) (from + n) cs) →
    ReadAhead f (run f (take n (drop from bits))) bits from (from + n) to
ahead f bits from n to left h long over =
    record {
      least = omega arith;
      most = h;
      left = LeftBy-run f (take n (drop from bits)) left;
      same = sym (ap (scan f from) (slice_split bits from n to h) ∙ over (slice (from + n) to bits));
    }

-- none, and one stretch behind another
pub ahead_none : (f : Framing) (bits : List Bool) (from to : ℕ) → LeftBy f → from ≤ to → ReadAhead f f bits from from to
ahead_none f bits from to left h = record { least = omega arith; most = h; left = left; same = refl }

pub ahead_more : {f g h : Framing} {bits : List Bool} {from at next to : ℕ} → ReadAhead f g bits from at to → ReadAhead g h bits at next to →
    ReadAhead f h bits from next to
ahead_more a b = record { least = omega (arith, a.least, b.least); most = b.most; left = b.left; same = b.same ∙ a.same }
