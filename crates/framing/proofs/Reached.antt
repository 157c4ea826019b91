-- The framings that bits leave, in five forms: `Reached` lists them, and each bit leads from one of them to one of them.
use Prim.Native.Nat.{ℕ, suc, ◌%◌, ◌≤◌}
use mathlib.Core.Bool.{Bool, true, false, cond}
use mathlib.Core.List.{List, [], ◌∷◌, ◌++◌}
use mathlib.Core.Path.{◌≡◌, refl}
use native.Mathlib.Omega.{arith}
use lib.Dec.{leb, eqb}
use borrow.Author.Tests.{leb-true, le-leb, eqb-true}
use Rattle.bits.proofs.Tests.{and_left, and_right}
use Rattle.hdlc.specs.Stuffing.{end_ones}
use Rattle.framing.specs.declared.Framing.{Framing}
use Rattle.framing.specs.Machine.{empty, fresh, phase_after, step, run}
use Rattle.framing.specs.Range.{LeftBy, in_fives}
use Rattle.framing.proofs.Framed.{framed, held_bits, framed_empty, step_one, step_seven, step-fresh_one}
use Rattle.framing.proofs.Framed.{up_to_six, step-flag, step-zero, step-zero_hunting, step-fresh-zero}

-- fresh, behind a zero outside a body, and in a body behind the opening flag's zero, a plain zero, and a zero behind five ones
pub data Reached : Framing → Type 0 where
  before : Reached fresh
  hunting : (o : ℕ) → o ≤ 6 → Reached (framed 1 o [])
  opened : (o : ℕ) → o ≤ 6 → Reached (framed 2 o [])
  plain : (o : ℕ) (x : List Bool) → o ≤ 6 → Reached (framed 3 o x)
  stuffed : (o : ℕ) (x : List Bool) → o ≤ 6 → in_fives (end_ones x 0) ≡ true → Reached (framed 4 o x)

-- ---- whole fives of ones

-- what the test says
pub in_fives-least : (n : ℕ) → in_fives n ≡ true → 5 ≤ n
unfolding in_fives
in_fives-least n h = leb-true 5 n (and_left (leb 5 n) (eqb (n % 5) 0) h)

pub in_fives-whole : (n : ℕ) → in_fives n ≡ true → n % 5 ≡ 0
unfolding in_fives
in_fives-whole n h = eqb-true (n % 5) 0 (and_right (leb 5 n) (eqb (n % 5) 0) h)

-- five more
in_fives_more : (n : ℕ) → in_fives n ≡ true → in_fives (suc (suc (suc (suc (suc n))))) ≡ true
unfolding in_fives
in_fives_more n h =
    let least : 5 ≤ n = in_fives-least n h in
    let whole : n % 5 ≡ 0 = in_fives-whole n h in
    let more : suc (suc (suc (suc (suc n)))) % 5 ≡ 0 = omega arith in
    rw (le-leb 5 (suc (suc (suc (suc (suc n))))) (omega arith), more)

-- the ones that end bits in two pieces
end_ones_append : (a b : List Bool) (n : ℕ) → end_ones (a ++ b) n ≡ end_ones b (end_ones a n)
unfolding end_ones
end_ones_append [] b n = refl
end_ones_append (true ∷ a) b n = end_ones_append a b (suc n)
end_ones_append (false ∷ a) b n = end_ones_append a b 0

-- five ones behind each of the three zeros of a body make whole fives
in_fives-opened : in_fives (end_ones (held_bits 2 5) 0) ≡ true
unfolding in_fives end_ones held_bits
in_fives-opened = refl

in_fives-plain : (x : List Bool) → in_fives (end_ones (x ++ held_bits 3 5) 0) ≡ true
unfolding in_fives end_ones held_bits
in_fives-plain x = rw (end_ones_append x (held_bits 3 5) 0)

in_fives_stuffed : (x : List Bool) → in_fives (end_ones x 0) ≡ true → in_fives (end_ones (x ++ held_bits 4 5) 0) ≡ true
unfolding end_ones held_bits
in_fives_stuffed x h = rw (end_ones_append x (held_bits 4 5) 0) (in_fives_more (end_ones x 0) h)

-- ---- each bit

-- a one: the form stays, and a seventh one leaves the framing fresh
Reached_one : (p o : ℕ) (x : List Bool) → ((n : ℕ) → n ≤ 6 → Reached (framed (suc p) n x)) → o ≤ 6 →
    Reached (step (framed (suc p) o x) true)
Reached_one p o x form l =
    up_to_six (λ n. Reached (step (framed (suc p) n x) true)) o l (λ fewer. rw (step_one p o x fewer) (form (suc o) fewer))
    (rw (step_seven p x) before)

-- a zero outside a body
Reached-empty_1 : Reached (empty 1)
Reached-empty_1 = rw (framed_empty 1) (hunting 0 (omega arith))

Reached-empty_2 : Reached (empty 2)
Reached-empty_2 = rw (framed_empty 2) (opened 0 (omega arith))

Reached_hunting : (o : ℕ) → o ≤ 6 → Reached (step (framed 1 o []) false)
Reached_hunting o l =
    up_to_six (λ n. Reached (step (framed 1 n []) false)) o l (λ fewer. rw (step-zero_hunting o [] fewer) Reached-empty_1)
    (rw (step-flag 0 []) Reached-empty_2)

-- a zero in a body: behind five ones they must make whole fives
Reached-phase_after : (o : ℕ) (x : List Bool) → (o ≡ 5 → in_fives (end_ones x 0) ≡ true) → Reached (framed (phase_after o) 0 x)
unfolding phase_after
Reached-phase_after o x h = go (eqb o 5) refl
  where
    go : (t : Bool) → eqb o 5 ≡ t → Reached (framed (cond t 4 3) 0 x)
    go true e = stuffed 0 x (omega arith) (h (eqb-true o 5 e))
    go false e = plain 0 x (omega arith)

Reached-zero : (p o : ℕ) (x : List Bool) → o ≤ 6 → in_fives (end_ones (x ++ held_bits (suc (suc p)) 5) 0) ≡ true →
    Reached (step (framed (suc (suc p)) o x) false)
Reached-zero p o x l h =
    up_to_six (λ n. Reached (step (framed (suc (suc p)) n x) false)) o l
    (λ fewer.
    rw (step-zero (suc (suc p)) o x (omega arith) fewer)
    (Reached-phase_after o (x ++ held_bits (suc (suc p)) o) (λ five. rw five h)))
    (rw (step-flag (suc p) x) Reached-empty_2)

-- any bit
Reached-step : (b : Bool) {f : Framing} → Reached f → Reached (step f b)
Reached-step true before = rw step-fresh_one before
Reached-step true (hunting o l) = Reached_one 0 o [] hunting l
Reached-step true (opened o l) = Reached_one 1 o [] opened l
Reached-step true (plain o x l) = Reached_one 2 o x (λ n. plain n x) l
Reached-step true (stuffed o x l h) = Reached_one 3 o x (λ n k. stuffed n x k h) l
Reached-step false before = rw step-fresh-zero Reached-empty_1
Reached-step false (hunting o l) = Reached_hunting o l
Reached-step false (opened o l) = Reached-zero 0 o [] l in_fives-opened
Reached-step false (plain o x l) = Reached-zero 1 o x l (in_fives-plain x)
Reached-step false (stuffed o x l h) = Reached-zero 2 o x l (in_fives_stuffed x h)

-- every framing that bits leave is one of them
Reached-run : (bs : List Bool) {f : Framing} → Reached f → Reached (run f bs)
unfolding run
Reached-run [] r = r
Reached-run (b ∷ bs) r = Reached-run bs (Reached-step b r)

pub left_reached : (f : Framing) → LeftBy f → Reached f
unfolding LeftBy
left_reached f l = rw l.1 at (Reached-run l.0 before)
