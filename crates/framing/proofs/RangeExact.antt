-- A framing is refused as out of range exactly if no bits leave it: the test accepts each framing that `Reached` lists, what it
-- accepts is one of them, and bits leave just these.
use Prim.Native.Nat.{ℕ, zero, suc, ◌-◌, ◌≤◌, ◌<◌}
use mathlib.Core.Bool.{Bool, true, false, cond, ◌&&◌, ◌||◌}
use mathlib.Core.List.{List, [], ◌∷◌, ◌++◌}
use mathlib.Core.Path.{◌≡◌, refl, sym, ap, ◌∙◌}
use native.Mathlib.Omega.{arith}
use lib.ListN.{length, replicate, take, drop, take-append-drop}
use lib.Seq.{length-take-le, take-append_seam, drop-append_seam}
use lib.Dec.{ltb, eqb, lit<}
use borrow.Author.Tests.{ltb-true, ltb-false, lt-ltb, ne_eqb, eqb-true, eqb-false}
use Rattle.bits.specs.Bits.{odd, low_bits, byte_bits, bits_of, number_of, fill_bytes, Bytes}
use Rattle.bits.proofs.Bits.{length-bits_of, bits_of-fill_bytes, fill_bytes-bits_of, fill_bytes_zeros}
use Rattle.hdlc.specs.Stuffing.{end_ones}
use Rattle.framing.specs.declared.Framing.{Framing}
use Rattle.framing.specs.Machine.{empty, fresh}
use Rattle.framing.specs.Range.{LeftBy, all_zero, kept, in_fives, phase_right, in_range}
use Rattle.framing.proofs.Framed.{short, long, framed, framed_short, framed_long, framed_cases, framed_empty}
use Rattle.framing.proofs.Reached.{Reached, before, hunting, opened, plain, stuffed, left_reached}
use Rattle.bits.proofs.Tests.{and_left, and_right}
use Rattle.framing.proofs.ReachedLeft.{reached_left}

-- ---- the test accepts them

-- the unused places
all_zero-replicate : (k : ℕ) → all_zero (replicate k false) ≡ true
unfolding all_zero
all_zero-replicate zero = refl
all_zero-replicate (suc k) = all_zero-replicate k

all_zero-empty : all_zero (bits_of (replicate 21 0)) ≡ true
unfolding all_zero bits_of byte_bits low_bits odd
all_zero-empty = refl

in_range-fresh : in_range fresh ≡ true
unfolding in_range kept fresh empty phase_right
in_range-fresh = rw all_zero-empty

-- the tests that do not ask for the phase pass, and then for each phase
in_range_framed : (p o : ℕ) (x : List Bool) → o ≤ 6 → (length x ≤ 168 → phase_right (short p o x) ≡ true) →
    (168 < length x → phase_right (long p o) ≡ true) → in_range (framed p o x) ≡ true
unfolding in_range kept short long
in_range_framed p o x l s t =
    framed_cases (λ f. in_range f ≡ true) p o x
    (λ h.
    rw (lt-ltb o 7 (omega arith), lt-ltb (length x) 170 (omega arith), lt-ltb (length x) 169 (omega arith))
    (rw (bits_of-fill_bytes 21 x h, drop-append_seam x (replicate (168 - length x) false), all_zero-replicate (168 - length x)) (s h)))
    (λ h. rw (lt-ltb o 7 (omega arith), all_zero-empty) (t h))

phase_right-plain : (o : ℕ) (x : List Bool) → phase_right (short 3 o x) ≡ true
unfolding phase_right short
phase_right-plain o x = refl

phase_right-empty : (p o : ℕ) → p < 3 → 0 < p → phase_right (short p o []) ≡ true
unfolding phase_right short
phase_right-empty p o l pos =
    let out : p ≡ 0 → ⊥ = omega arith in
    rw (ne_eqb p 0 out, lt-ltb p 3 l)

phase_right_stuffed : (o : ℕ) (x : List Bool) → in_fives (end_ones x 0) ≡ true → length x ≤ 168 → phase_right (short 4 o x) ≡ true
unfolding phase_right short
phase_right_stuffed o x h l =
    let other : length x ≡ 169 → ⊥ = omega arith in
    rw (ne_eqb (length x) 169 other, bits_of-fill_bytes 21 x l, take-append_seam x (replicate (168 - length x) false)) h

phase_right-plain_long : (o : ℕ) → phase_right (long 3 o) ≡ true
unfolding phase_right long
phase_right-plain_long o = refl

phase_right_stuffed_long : (o : ℕ) → phase_right (long 4 o) ≡ true
unfolding phase_right long
phase_right_stuffed_long o = refl

-- each form
Reached-in_range : {f : Framing} → Reached f → in_range f ≡ true
Reached-in_range before = in_range-fresh
Reached-in_range (hunting o l) = in_range_framed 1 o [] l (λ _. phase_right-empty 1 o (lit< tt) (lit< tt)) (λ h. absurd (omega arith))
Reached-in_range (opened o l) = in_range_framed 2 o [] l (λ _. phase_right-empty 2 o (lit< tt) (lit< tt)) (λ h. absurd (omega arith))
Reached-in_range (plain o x l) = in_range_framed 3 o x l (λ _. phase_right-plain o x) (λ _. phase_right-plain_long o)
Reached-in_range (stuffed o x l h) = in_range_framed 4 o x l (phase_right_stuffed o x h) (λ _. phase_right_stuffed_long o)

-- no framing that bits leave is refused
pub left_in_range : (f : Framing) → LeftBy f → in_range f ≡ true
left_in_range f l = Reached-in_range (left_reached f l)

-- ---- what the test accepts is one of them

-- places that are all zero are a run of zeros
all_zero_is : (l : List Bool) → all_zero l ≡ true → l ≡ replicate (length l) false
unfolding all_zero
all_zero_is [] e = refl
all_zero_is (true ∷ l) e = absurd (let z : ◌≡◌ {A = ℕ} 0 1 = cc in omega arith)
all_zero_is (false ∷ l) e = ap (◌∷◌ false) (all_zero_is l e)

-- bytes whose bits from some number on are zeros are filled by the bits before it
fill_bytes-kept : (bytes : List ℕ) (k : ℕ) → length bytes ≡ 21 → Bytes bytes → all_zero (drop k (bits_of bytes)) ≡ true →
    bytes ≡ fill_bytes 21 (take k (bits_of bytes))
fill_bytes-kept bytes k n b z =
    let bits : List Bool = bits_of bytes in
    let all : bits ≡ take k bits ++ replicate (length (drop k bits)) false
    = sym (take-append-drop k bits) ∙ ap (λ r. take k bits ++ r) (all_zero_is (drop k bits) z) in
    sym (fill_bytes-bits_of bytes b) ∙ ap (λ m. fill_bytes m bits) n ∙ ap (fill_bytes 21) all
    ∙ fill_bytes_zeros 21 (take k bits) (length (drop k bits))

-- a framing of each form, by its count and bits
short_is : (f : Framing) (x : List Bool) → f.count ≡ length x → f.bits ≡ fill_bytes 21 x → f ≡ short f.phase f.ones x
unfolding short
short_is f x c b = λ i. record { phase = f.phase; ones = f.ones; count = c i; bits = b i }

long_is : (f : Framing) → f.count ≡ 169 → f.bits ≡ fill_bytes 21 [] → f ≡ long f.phase f.ones
unfolding long fill_bytes number_of
long_is f c b = λ i. record { phase = f.phase; ones = f.ones; count = c i; bits = b i }

-- the bits that a framing keeps, or, where they are too many, some that are too many and end in whole fives of ones
kept_bits : Framing → List Bool
kept_bits f = cond (ltb f.count 169) (take f.count (bits_of f.bits)) (replicate 170 true)

kept_bits-none : (f : Framing) → f.count ≡ 0 → kept_bits f ≡ []
unfolding kept_bits
kept_bits-none f e = rw e

-- the fresh framing
Reached_before : (o : ℕ) → o ≡ 0 → Reached (framed 0 o [])
unfolding fresh
Reached_before o e = rw (e, ← framed_empty 0) before

-- the parts of four tests that pass
and_all : (a b c d : Bool) → (a && b && c && d) ≡ true → (a ≡ true) × (b ≡ true) × (c ≡ true) × (d ≡ true)
and_all a b c d e =
    let abc : (a && b && c) ≡ true = and_left (a && b && c) d e in
    let ab : (a && b) ≡ true = and_left (a && b) c abc in
    (and_left a b ab, and_right a b ab, and_right (a && b) c abc, and_right (a && b && c) d e)

module _ (f : Framing) (n : length f.bits ≡ 21) (b : Bytes f.bits) (r : in_range f ≡ true) where
  -- the four tests
  tests :
      (ltb f.ones 7 ≡ true) × (ltb f.count 170 ≡ true) × (all_zero (drop (kept f) (bits_of f.bits)) ≡ true) ×
      (phase_right f ≡ true)
  unfolding in_range
  tests = and_all (ltb f.ones 7) (ltb f.count 170) (all_zero (drop (kept f) (bits_of f.bits))) (phase_right f) r

  -- at most six ones
  ones_few : f.ones ≤ 6
  ones_few = omega (arith, ltb-true f.ones 7 tests.0)

  -- the framing by the bits it keeps
  framed_is : f ≡ framed f.phase f.ones (kept_bits f)
  unfolding kept_bits kept
  framed_is = go (ltb f.count 169) refl
    where
      go : (t : Bool) → ltb f.count 169 ≡ t →
          f ≡ framed f.phase f.ones (cond t (take f.count (bits_of f.bits)) (replicate 170 true))
      go true e =
          let x : List Bool = take f.count (bits_of f.bits) in
          let fits : f.count < 169 = ltb-true f.count 169 e in
          let c : length x ≡ f.count = length-take-le f.count (bits_of f.bits) (omega (arith, length-bits_of f.bits)) in
          let z : all_zero (drop f.count (bits_of f.bits)) ≡ true = rw e at tests.2 in
          short_is f x (sym c) (fill_bytes-kept f.bits f.count n b z) ∙ sym (framed_short f.phase f.ones x (omega arith))
      go false e =
          let more : 169 ≤ f.count = ltb-false f.count 169 e in
          let c : f.count ≡ 169 = omega (arith, ltb-true f.count 170 tests.1) in
          let z : all_zero (drop 0 (bits_of f.bits)) ≡ true = rw e at tests.2 in
          long_is f c (fill_bytes-kept f.bits 0 n b z) ∙ sym (framed_long f.phase f.ones (replicate 170 true) (omega arith))

  -- a form by its phase and bits
  by_phase : (p : ℕ) (x : List Bool) → f.phase ≡ p → kept_bits f ≡ x → Reached (framed p f.ones x) → Reached f
  by_phase p x e k form = rw (framed_is, k, e) form

  -- what phase 4 asks for
  in_fives-kept : (eqb f.count 169 || in_fives (end_ones (take f.count (bits_of f.bits)) 0)) ≡ true →
      in_fives (end_ones (kept_bits f) 0) ≡ true
  unfolding kept_bits end_ones in_fives
  in_fives-kept h = go (ltb f.count 169) refl
    where
      go : (t : Bool) → ltb f.count 169 ≡ t →
          in_fives (end_ones (cond t (take f.count (bits_of f.bits)) (replicate 170 true)) 0) ≡ true
      go true e =
          let fits : f.count < 169 = ltb-true f.count 169 e in
          let other : f.count ≡ 169 → ⊥ = omega arith in
          rw (ne_eqb f.count 169 other) at h
      go false e = refl

  -- no bits and a phase outside a body or just opened
  reached_empty : f.count ≡ 0 → 0 < f.phase → f.phase < 3 → Reached f
  reached_empty c started early = go (eqb f.phase 1) refl
    where
      go : (t : Bool) → eqb f.phase 1 ≡ t → Reached f
      go true e = by_phase 1 [] (eqb-true f.phase 1 e) (kept_bits-none f c) (hunting f.ones ones_few)
      go false e =
          let other : f.phase ≡ 1 → ⊥ = eqb-false f.phase 1 e in
          by_phase 2 [] (omega arith) (kept_bits-none f c) (opened f.ones ones_few)

  -- each phase
  in_range-Reached : Reached f
  unfolding phase_right
  in_range-Reached = go (eqb f.phase 0) refl (ltb f.phase 3) refl (eqb f.phase 3) refl tests.3
    where
      stands : Bool
      stands = eqb f.count 169 || in_fives (end_ones (take f.count (bits_of f.bits)) 0)

      go : (out : Bool) → eqb f.phase 0 ≡ out → (early : Bool) → ltb f.phase 3 ≡ early →
          (three : Bool) → eqb f.phase 3 ≡ three →
          cond out (eqb f.ones 0 && eqb f.count 0)
          (cond early (eqb f.count 0) (cond three true (eqb f.phase 4 && stands))) ≡ true →
          Reached f
      go true e early _ three _ h =
          let ones : f.ones ≡ 0 = eqb-true f.ones 0 (and_left (eqb f.ones 0) (eqb f.count 0) h) in
          let count : f.count ≡ 0 = eqb-true f.count 0 (and_right (eqb f.ones 0) (eqb f.count 0) h) in
          by_phase 0 [] (eqb-true f.phase 0 e) (kept_bits-none f count) (Reached_before f.ones ones)
      go false e true l three _ h =
          let started : f.phase ≡ 0 → ⊥ = eqb-false f.phase 0 e in
          reached_empty (eqb-true f.count 0 h) (omega arith) (ltb-true f.phase 3 l)
      go false e false l true p h = by_phase 3 (kept_bits f) (eqb-true f.phase 3 p) refl (plain f.ones (kept_bits f) ones_few)
      go false e false l false p h =
          by_phase 4 (kept_bits f) (eqb-true f.phase 4 (and_left (eqb f.phase 4) stands h)) refl
          (stuffed f.ones (kept_bits f) ones_few (in_fives-kept (and_right (eqb f.phase 4) stands h)))

-- and each that no bits leave is
pub in-range-left : (f : Framing) → length f.bits ≡ 21 → Bytes f.bits → in_range f ≡ true → LeftBy f
in-range-left f n b r = reached_left (in_range-Reached f n b r)
