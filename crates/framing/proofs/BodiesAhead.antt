-- The declared bodies told bit by bit: what is still to be found in the bits ahead, from the last flag and the bits read
-- since its first bit. No number of a bit counts there but a flag's own, so that a reader can be compared with it step by step.
use Prim.Native.Nat.{ℕ, suc, ◌+◌, ◌-◌, ◌≤◌, ◌<◌}
use native.Mathlib.Numerals.{add-one}
use native.Mathlib.Omega.{arith}
use mathlib.Core.Bool.{Bool, true, false, cond}
use mathlib.Core.List.{List, [], ◌∷◌, ◌++◌, append_assoc}
use mathlib.Core.Path.{◌≡◌, refl, sym, ap, ◌∙◌}
use lib.ListN.{length, take, drop, length-append, length-drop}
use lib.Seq.{take_at, drop-append-add, drop-append-le}
use lib.Dec.{leb}
use borrow.Author.Tests.{leb-true, leb-false, le-leb, lt-leb}
use Rattle.hdlc.specs.Frames.{flag}
use Rattle.hdlc.specs.Bodies.{Body, starts_with, flags_from, flags, bodies_after, between_flags, bodies, void}
use Rattle.framing.specs.Closings.{not_void}
use Rattle.framing.proofs.Void.{void_append}

-- the bodies that flags in the bits ahead close, where the last flag's first bit has number i and `seen` is read from there on
unfoldable pub bodies_behind : List Bool → ℕ → List Bool → List Body
bodies_behind [] i seen = []
bodies_behind (b ∷ s) i seen =
    let j = i + length seen in
    let later = bodies_behind s j (b ∷ []) in
    cond (starts_with flag (b ∷ s))
    (cond (leb 8 (length seen)) (record { opening = i; closing = j; bits = drop 8 seen } ∷ later) later)
    (bodies_behind s i (seen ++ (b ∷ [])))

-- the bodies in the bits ahead where no flag is read yet, and the first bit ahead has number n
unfoldable pub bodies_from : List Bool → ℕ → List Body
bodies_from [] n = []
bodies_from (b ∷ s) n = cond (starts_with flag (b ∷ s)) (bodies_behind s n (b ∷ [])) (bodies_from s (suc n))

-- the bits between a flag at i and the place behind `seen`
between : (pre seen rest : List Bool) (i n : ℕ) → length pre ≡ i → n ≡ i + length seen → 8 ≤ length seen
    → take (n - (i + 8)) (drop (i + 8) (pre ++ (seen ++ rest))) ≡ drop 8 seen
between pre seen rest i n at behind long =
    rw (← at, drop-append-add, drop-append-le 8 seen rest long)
    (take_at (drop 8 seen) rest (n - (length pre + 8)) (rw length-drop (omega arith)))

module _ (bs : List Bool) where
  -- a flag at n closes the body before it
  bodies_after-flag : (pre seen rest : List Bool) (i n : ℕ) (js : List ℕ) (later : List Body) → bs ≡ pre ++ (seen ++ rest)
      → length pre ≡ i → n ≡ i + length seen → bodies_after bs n js ≡ later
      → bodies_after bs i (n ∷ js)
      ≡ cond (leb 8 (length seen)) (record { opening = i; closing = i + length seen; bits = drop 8 seen } ∷ later) later
  unfolding bodies_after
  bodies_after-flag pre seen rest i n js later e at behind ahead = go (leb 8 (length seen)) refl
    where
      go : (t : Bool) → leb 8 (length seen) ≡ t
          → bodies_after bs i (n ∷ js)
          ≡ cond (leb 8 (length seen)) (record { opening = i; closing = i + length seen; bits = drop 8 seen } ∷ later) later
      go true is =
          let long : 8 ≤ length seen = leb-true 8 (length seen) is in
          rw (is, le-leb (i + 8) n (omega arith), ahead, e, between pre seen rest i n at behind long, behind)
      go false is =
          let short : length seen < 8 = leb-false 8 (length seen) is in
          rw (is, lt-leb (i + 8) n (omega arith), ahead)

  -- the declared bodies after a flag are those told bit by bit
  bodies_after-behind : (s pre seen : List Bool) (i n : ℕ) → bs ≡ pre ++ (seen ++ s) → length pre ≡ i → n ≡ i + length seen
      → bodies_after bs i (flags_from s n) ≡ bodies_behind s i seen
  unfolding bodies_after flags_from bodies_behind
  bodies_after-behind [] pre seen i n e at behind = refl
  bodies_after-behind (b ∷ s) pre seen i n e at behind =
      go (starts_with flag (b ∷ s)) refl
      (bodies_after-behind s (pre ++ seen) (b ∷ []) n (suc n) (rw append_assoc e) (rw length-append (omega arith))
      (sym (add-one n)))
      (bodies_after-behind s pre (seen ++ (b ∷ [])) i (suc n) (rw append_assoc e) at (rw length-append (omega arith)))
    where
      go : (t : Bool) → starts_with flag (b ∷ s) ≡ t
          → bodies_after bs n (flags_from s (suc n)) ≡ bodies_behind s n (b ∷ [])
          → bodies_after bs i (flags_from s (suc n)) ≡ bodies_behind s i (seen ++ (b ∷ []))
          → bodies_after bs i (flags_from (b ∷ s) n) ≡ bodies_behind (b ∷ s) i seen
      go true is flagged unflagged =
          rw is (bodies_after-flag pre seen (b ∷ s) i n (flags_from s (suc n)) _ e at behind
          (flagged ∙ ap (λ k. bodies_behind s k (b ∷ [])) behind))
      go false is flagged unflagged = rw is unflagged

  -- and so are those of all flags
  between_flags_from : (s pre : List Bool) (n : ℕ) → bs ≡ pre ++ s → length pre ≡ n
      → between_flags bs (flags_from s n) ≡ bodies_from s n
  unfolding between_flags flags_from bodies_from
  between_flags_from [] pre n e at = refl
  between_flags_from (b ∷ s) pre n e at =
      go (starts_with flag (b ∷ s)) refl
      (between_flags_from s (pre ++ (b ∷ [])) (suc n) (rw append_assoc e) (rw length-append (omega arith)))
    where
      go : (t : Bool) → starts_with flag (b ∷ s) ≡ t → between_flags bs (flags_from s (suc n)) ≡ bodies_from s (suc n)
          → between_flags bs (flags_from (b ∷ s) n) ≡ bodies_from (b ∷ s) n
      go true is unflagged = rw is (bodies_after-behind s pre (b ∷ []) n (suc n) e at (sym (add-one n)))
      go false is unflagged = rw is unflagged

-- the bodies in bits are those told bit by bit
pub bodies-from : (bs : List Bool) → bodies bs ≡ bodies_from bs 0
unfolding bodies flags
bodies-from bs = between_flags_from bs bs [] 0 refl refl

-- ---- one bit

-- where no flag starts, the bit goes to those read
pub bodies_behind_none : (b : Bool) (s : List Bool) (i : ℕ) (seen : List Bool) → starts_with flag (b ∷ s) ≡ false
    → bodies_behind (b ∷ s) i seen ≡ bodies_behind s i (seen ++ (b ∷ []))
unfolding bodies_behind
bodies_behind_none b s i seen is = rw is

-- a flag closes the body
pub bodies_behind_flag : (b : Bool) (s : List Bool) (i : ℕ) (seen : List Bool) → starts_with flag (b ∷ s) ≡ true
    → 8 ≤ length seen
    → bodies_behind (b ∷ s) i seen
    ≡ record { opening = i; closing = i + length seen; bits = drop 8 seen } ∷ bodies_behind s (i + length seen) (b ∷ [])
unfolding bodies_behind
bodies_behind_flag b s i seen is long = rw (is, le-leb 8 (length seen) long)

-- a flag that shares its zero with the one before closes none
pub bodies_behind_shared : (b : Bool) (s : List Bool) (i : ℕ) (seen : List Bool) → starts_with flag (b ∷ s) ≡ true
    → length seen < 8
    → bodies_behind (b ∷ s) i seen ≡ bodies_behind s (i + length seen) (b ∷ [])
unfolding bodies_behind
bodies_behind_shared b s i seen is short = rw (is, lt-leb 8 (length seen) short)

-- the same where no flag is read yet
pub bodies_from_none : (b : Bool) (s : List Bool) (n : ℕ) → starts_with flag (b ∷ s) ≡ false
    → bodies_from (b ∷ s) n ≡ bodies_from s (suc n)
unfolding bodies_from
bodies_from_none b s n is = rw is

pub bodies_from_flag : (b : Bool) (s : List Bool) (n : ℕ) → starts_with flag (b ∷ s) ≡ true
    → bodies_from (b ∷ s) n ≡ bodies_behind s n (b ∷ [])
unfolding bodies_from
bodies_from_flag b s n is = rw is

-- ---- void bodies

-- a void body is dropped
not_void-void : (b : Body) (bs : List Body) → void b.bits ≡ true → not_void (b ∷ bs) ≡ not_void bs
unfolding not_void
not_void-void b bs is = rw is

-- where the body is void already, the bodies are those after no flag: what the next flag closes is dropped
pub not_void-behind : (s : List Bool) (i n : ℕ) (seen : List Bool) → 8 ≤ length seen → void (drop 8 seen) ≡ true
    → n ≡ i + length seen
    → not_void (bodies_behind s i seen) ≡ not_void (bodies_from s n)
unfolding bodies_behind bodies_from
not_void-behind [] i n seen long is behind = refl
not_void-behind (b ∷ s) i n seen long is behind =
    go (starts_with flag (b ∷ s)) refl
    (not_void-behind s i (suc n) (seen ++ (b ∷ [])) (rw length-append (omega arith))
    (rw (drop-append-le 8 seen (b ∷ []) long) (void_append (drop 8 seen) (b ∷ []) is)) (rw length-append (omega arith)))
  where
    go : (t : Bool) → starts_with flag (b ∷ s) ≡ t → not_void (bodies_behind s i (seen ++ (b ∷ []))) ≡ not_void (bodies_from s (suc n))
        → not_void (bodies_behind (b ∷ s) i seen) ≡ not_void (bodies_from (b ∷ s) n)
    go true found later = rw (bodies_behind_flag b s i seen found long, bodies_from_flag b s n found, not_void-void, behind)
    go false found later = rw found later
