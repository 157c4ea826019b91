-- The framing as phase, ones and the unstuffed bits kept so far: `framed p o x` is the framing in phase p behind o ones that keeps
-- the bits x. One step of the machine is told in these terms, for each bit and each phase.
use Prim.Native.Nat.{ℕ, suc, ◌+◌, ◌-◌, ◌≤◌, ◌<◌}
use mathlib.Core.Bool.{Bool, true, false, cond}
use mathlib.Core.List.{List, [], ◌∷◌, ◌++◌, append_assoc}
use mathlib.Core.Path.{◌≡◌, refl, sym, ◌∙◌}
use native.Mathlib.Numerals.{add-one}
use native.Mathlib.Omega.{arith}
use lib.ListN.{length, replicate, length-append, length-replicate}
use lib.Seq.{sets}
use lib.Dec.{leb, ltb, eqb, lit≤}
use borrow.Author.Tests.{lt-ltb, le-ltb, ltb-true, ltb-false, le-leb, lt-leb, leb-true, leb-false, eq-eqb, ne_eqb}
use Rattle.bits.specs.Bits.{bits_of, number_of, fill_bytes}
use Rattle.bits.proofs.Lists.{sets_behind, drop-replicate}
use Rattle.bits.proofs.Bits.{bits_of-fill_bytes, fill_bytes_zeros}
use Rattle.framing.specs.declared.Framing.{Framing}
use Rattle.framing.specs.Machine.{empty, fresh, one_read, zero_read, held, phase_after, keep, step}

-- ---- a step of any framing, by its phase and ones

-- a one: before any zero, behind fewer than six ones, and the seventh
pub step-true_out : (f : Framing) → f.phase ≡ 0 → step f true ≡ f
unfolding step one_read
step-true_out f e = simp (eq-eqb f.phase 0 e)

pub step-true_more : (f : Framing) → 0 < f.phase → f.ones < 6 →
    step f true ≡ record { phase = f.phase; ones = suc f.ones; count = f.count; bits = f.bits }
unfolding step one_read
step-true_more f p o =
    let out : f.phase ≡ 0 → ⊥ = omega arith in
    simp (ne_eqb f.phase 0 out, lt-ltb f.ones 6 o, add-one)

pub step-true-void : (f : Framing) → 0 < f.phase → 6 ≤ f.ones → step f true ≡ fresh
unfolding step one_read
step-true-void f p o =
    let out : f.phase ≡ 0 → ⊥ = omega arith in
    simp (ne_eqb f.phase 0 out, le-ltb f.ones 6 o)

-- a zero: before any other, behind six ones, outside a body, and in one
pub step-false_out : (f : Framing) → f.phase ≡ 0 → step f false ≡ empty 1
unfolding step zero_read
step-false_out f e = simp (eq-eqb f.phase 0 e)

pub step-false-flag : (f : Framing) → 0 < f.phase → 6 ≤ f.ones → step f false ≡ empty 2
unfolding step zero_read
step-false-flag f p o =
    let out : f.phase ≡ 0 → ⊥ = omega arith in
    simp (ne_eqb f.phase 0 out, le-ltb f.ones 6 o)

pub step-false_hunting : (f : Framing) → f.phase ≡ 1 → f.ones < 6 → step f false ≡ empty 1
unfolding step zero_read
step-false_hunting f e o =
    let out : f.phase ≡ 0 → ⊥ = omega arith in
    simp (ne_eqb f.phase 0 out, lt-ltb f.ones 6 o, eq-eqb f.phase 1 e)

pub step-false-keep : (f : Framing) → 1 < f.phase → f.ones < 6 → step f false ≡ keep f
unfolding step zero_read
step-false-keep f p o =
    let out : f.phase ≡ 0 → ⊥ = omega arith in
    let hunting : f.phase ≡ 1 → ⊥ = omega arith in
    simp (ne_eqb f.phase 0 out, ne_eqb f.phase 1 hunting, lt-ltb f.ones 6 o)

-- ---- framings by the bits they keep

-- the framing that keeps these bits, all of them
unfoldable pub short : ℕ → ℕ → List Bool → Framing
short p o x = record { phase = p; ones = o; count = length x; bits = fill_bytes 21 x }

-- the framing whose bits are more than it can keep
unfoldable pub long : ℕ → ℕ → Framing
long p o = record { phase = p; ones = o; count = 169; bits = replicate 21 0 }

-- phase p behind o ones, with the bits x kept
unfoldable pub framed : ℕ → ℕ → List Bool → Framing
framed p o x = cond (leb (length x) 168) (short p o x) (long p o)

-- the bits held back in a phase behind a number of ones
unfoldable pub held_bits : ℕ → ℕ → List Bool
held_bits p o = cond (eqb p 3) (false ∷ replicate o true) (replicate o true)

-- at most 168 bits are kept, of more it is told that they are too many
pub framed_short : (p o : ℕ) (x : List Bool) → length x ≤ 168 → framed p o x ≡ short p o x
unfolding framed
framed_short p o x h = rw (le-leb (length x) 168 h)

pub framed_long : (p o : ℕ) (x : List Bool) → 168 < length x → framed p o x ≡ long p o
unfolding framed
framed_long p o x h = rw (lt-leb (length x) 168 h)

-- what holds of both forms holds of a framing
pub framed_cases : (P : Framing → Type 0) (p o : ℕ) (x : List Bool) →
    (length x ≤ 168 → P (short p o x)) → (168 < length x → P (long p o)) → P (framed p o x)
framed_cases P p o x s l = go (leb (length x) 168) refl
  where
    go : (t : Bool) → leb (length x) 168 ≡ t → P (framed p o x)
    go true e = rw (framed_short p o x (leb-true (length x) 168 e)) (s (leb-true (length x) 168 e))
    go false e = rw (framed_long p o x (leb-false (length x) 168 e)) (l (leb-false (length x) 168 e))

-- no bit kept
pub framed_empty : (p : ℕ) → empty p ≡ framed p 0 []
unfolding framed short empty fill_bytes number_of
framed_empty p = refl

-- phase and ones are as told
pub phase_framed : (p o : ℕ) (x : List Bool) → (framed p o x).phase ≡ p
unfolding short long
phase_framed p o x = framed_cases (λ f. f.phase ≡ p) p o x (λ _. refl) (λ _. refl)

pub ones_framed : (p o : ℕ) (x : List Bool) → (framed p o x).ones ≡ o
unfolding short long
ones_framed p o x = framed_cases (λ f. f.ones ≡ o) p o x (λ _. refl) (λ _. refl)

-- ---- a one read

-- it is counted, and a seventh leaves the framing fresh
pub step_one : (p o : ℕ) (x : List Bool) → o < 6 → step (framed (suc p) o x) true ≡ framed (suc p) (suc o) x
unfolding framed short long
step_one p o x h = go (leb (length x) 168)
  where
    go : (t : Bool) → step (cond t (short (suc p) o x) (long (suc p) o)) true ≡ cond t (short (suc p) (suc o) x) (long (suc p) (suc o))
    go true = step-true_more (short (suc p) o x) (omega arith) h
    go false = step-true_more (long (suc p) o) (omega arith) h

pub step_seven : (p : ℕ) (x : List Bool) → step (framed (suc p) 6 x) true ≡ fresh
step_seven p x = step-true-void (framed (suc p) 6 x) (rw (phase_framed (suc p) 6 x) (omega arith)) (rw (ones_framed (suc p) 6 x) (omega arith))

pub step-fresh_one : step fresh true ≡ fresh
unfolding fresh empty
step-fresh_one = step-true_out fresh refl

-- ---- a zero read

-- outside a body, and behind six ones
pub step-fresh-zero : step fresh false ≡ empty 1
unfolding fresh empty
step-fresh-zero = step-false_out fresh refl

pub step-flag : (p : ℕ) (x : List Bool) → step (framed (suc p) 6 x) false ≡ empty 2
step-flag p x = step-false-flag (framed (suc p) 6 x) (rw (phase_framed (suc p) 6 x) (omega arith)) (rw (ones_framed (suc p) 6 x) (omega arith))

pub step-zero_hunting : (o : ℕ) (x : List Bool) → o < 6 → step (framed 1 o x) false ≡ empty 1
step-zero_hunting o x h = step-false_hunting (framed 1 o x) (phase_framed 1 o x) (rw (ones_framed 1 o x) h)

-- the bits held back are written behind those kept
fill_bytes_sets : (x h : List Bool) → length x + length h ≤ 168 →
    fill_bytes 21 (sets (bits_of (fill_bytes 21 x)) (length x) h) ≡ fill_bytes 21 (x ++ h)
fill_bytes_sets x h fits =
    let room : length h ≤ length (replicate (168 - length x) false) = rw length-replicate (omega arith) in
    rw (bits_of-fill_bytes 21 x (omega arith), sets_behind x (replicate (168 - length x) false) h room, drop-replicate, ← append_assoc)
    (fill_bytes_zeros 21 (x ++ h) (168 - length x - length h))

cond_left : (t : Bool) (f g h : Framing) → (t ≡ true → f ≡ g) → cond t f h ≡ cond t g h
cond_left true f g h e = e refl
cond_left false f g h e = refl

framed_append : (p : ℕ) (x h : List Bool) →
    cond (leb (length x + length h) 168)
    (record { phase = p; ones = 0; count = length x + length h; bits = fill_bytes 21 (sets (bits_of (fill_bytes 21 x)) (length x) h) })
    (long p 0) ≡
    framed p 0 (x ++ h)
unfolding framed short
framed_append p x h =
    rw (length-append x h)
    (cond_left (leb (length x + length h) 168) _ _ (long p 0)
    (λ fits. rw (fill_bytes_sets x h (leb-true (length x + length h) 168 fits))))

-- a zero read in a body: what was held back is kept
pub keep_framed : (p o : ℕ) (x : List Bool) → keep (framed p o x) ≡ framed (phase_after o) 0 (x ++ held_bits p o)
unfolding keep held held_bits short long
keep_framed p o x =
    framed_cases (λ f. keep f ≡ framed (phase_after o) 0 (x ++ held_bits p o)) p o x (λ _. framed_append (phase_after o) x (held_bits p o))
    (λ more.
    rw (lt-leb (169 + length (held_bits p o)) 168 (omega arith))
    (sym (framed_long (phase_after o) 0 (x ++ held_bits p o) (rw (length-append x (held_bits p o)) (omega arith)))))

pub step-zero : (p o : ℕ) (x : List Bool) → 1 < p → o < 6 → step (framed p o x) false ≡ framed (phase_after o) 0 (x ++ held_bits p o)
step-zero p o x b h = step-false-keep (framed p o x) (rw (phase_framed p o x) b) (rw (ones_framed p o x) h) ∙ keep_framed p o x

-- ---- facts of ones and phases

-- fewer than six ones, or six
pub up_to_six : (P : ℕ → Type 0) (o : ℕ) → o ≤ 6 → (o < 6 → P o) → P 6 → P o
up_to_six P o l fewer six = go (ltb o 6) refl
  where
    go : (t : Bool) → ltb o 6 ≡ t → P o
    go true e = fewer (ltb-true o 6 e)
    go false e =
        let most : 6 ≤ o = ltb-false o 6 e in
        let last : o ≡ 6 = omega arith in
        rw last six

-- behind a zero that is no flag's, the phase is that of a body
pub phase_after_inside : (e : ℕ) → 3 ≤ phase_after e
unfolding phase_after
phase_after_inside e = go (eqb e 5)
  where
    go : (t : Bool) → 3 ≤ cond t 4 3
    go true = lit≤ tt
    go false = lit≤ tt
