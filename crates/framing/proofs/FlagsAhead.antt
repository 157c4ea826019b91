-- Where flags start behind a zero: the zero and the ones behind it that a reader holds back, before the bits to come, start a
-- flag exactly if six ones and a zero stand there; and no flag starts at a one. So what is held back is passed over at once.
use Prim.Native.Nat.{ℕ, zero, suc, ◌+◌, ◌≤◌, ◌<◌}
use native.Mathlib.Omega.{arith}
use mathlib.Core.Bool.{Bool, true, false}
use mathlib.Core.List.{List, [], ◌∷◌, ◌++◌, append_assoc, append-nil}
use mathlib.Core.Path.{◌≡◌, refl, ap, ◌∙◌}
use lib.ListN.{length, drop, replicate}
use Rattle.bits.specs.Bits.{odd, low_bits, byte_bits}
use Rattle.hdlc.specs.Frames.{flag}
use Rattle.hdlc.specs.Bodies.{starts_with}
use Rattle.framing.proofs.BodiesAhead.{bodies_behind, bodies_behind_none, bodies_behind_flag, bodies_behind_shared}
use Rattle.framing.proofs.BodiesAhead.{bodies_from, bodies_from_none, bodies_from_flag}

-- a zero and ones that are held back, before the bits to come
abbrev pub ahead : ℕ → List Bool → List Bool
ahead o r = false ∷ (replicate o true ++ r)

pub ahead_one : (o : ℕ) (r : List Bool) → ahead o (true ∷ r) ≡ ahead (suc o) r
ahead_one o r = ap (◌∷◌ false) (go o)
  where
    go : (k : ℕ) → replicate k true ++ (true ∷ r) ≡ true ∷ (replicate k true ++ r)
    go zero = refl
    go (suc k) = ap (◌∷◌ true) (go k)

-- ---- which start a flag

no_flag_one : (r : List Bool) → starts_with flag (true ∷ r) ≡ false
unfolding starts_with flag byte_bits low_bits odd
no_flag_one r = refl

flag_six : (r : List Bool) → starts_with flag (ahead 6 (false ∷ r)) ≡ true
unfolding starts_with flag byte_bits low_bits odd
flag_six r = refl

no_flag_seven : (r : List Bool) → starts_with flag (ahead 7 r) ≡ false
unfolding starts_with flag byte_bits low_bits odd
no_flag_seven r = refl

no_flag_few : (o : ℕ) (r : List Bool) → o < 6 → starts_with flag (ahead o (false ∷ r)) ≡ false
unfolding starts_with flag byte_bits low_bits odd
no_flag_few zero r h = refl
no_flag_few (suc zero) r h = refl
no_flag_few (suc (suc zero)) r h = refl
no_flag_few (suc (suc (suc zero))) r h = refl
no_flag_few (suc (suc (suc (suc zero)))) r h = refl
no_flag_few (suc (suc (suc (suc (suc zero))))) r h = refl
no_flag_few (suc (suc (suc (suc (suc (suc o)))))) r h = absurd (omega arith)

no_flag_end : (o : ℕ) → o < 7 → starts_with flag (ahead o []) ≡ false
unfolding starts_with flag byte_bits low_bits odd
no_flag_end zero h = refl
no_flag_end (suc zero) h = refl
no_flag_end (suc (suc zero)) h = refl
no_flag_end (suc (suc (suc zero))) h = refl
no_flag_end (suc (suc (suc (suc zero)))) h = refl
no_flag_end (suc (suc (suc (suc (suc zero))))) h = refl
no_flag_end (suc (suc (suc (suc (suc (suc zero)))))) h = refl
no_flag_end (suc (suc (suc (suc (suc (suc (suc o))))))) h = absurd (omega arith)

-- ---- what is held back is passed over

bodies_behind_ones : (o : ℕ) (s : List Bool) (i : ℕ) (seen : List Bool)
    → bodies_behind (replicate o true ++ s) i seen ≡ bodies_behind s i (seen ++ replicate o true)
bodies_behind_ones zero s i seen = rw append-nil
bodies_behind_ones (suc o) s i seen =
    bodies_behind_none true (replicate o true ++ s) i seen (no_flag_one (replicate o true ++ s))
    ∙ bodies_behind_ones o s i (seen ++ (true ∷ []))
    ∙ ap (bodies_behind s i) (append_assoc seen (true ∷ []) (replicate o true))

bodies_behind_ahead : (o : ℕ) (s : List Bool) (i : ℕ) (seen : List Bool) → starts_with flag (ahead o s) ≡ false
    → bodies_behind (ahead o s) i seen ≡ bodies_behind s i (seen ++ (false ∷ replicate o true))
bodies_behind_ahead o s i seen is =
    bodies_behind_none false (replicate o true ++ s) i seen is
    ∙ bodies_behind_ones o s i (seen ++ (false ∷ []))
    ∙ ap (bodies_behind s i) (append_assoc seen (false ∷ []) (replicate o true))

bodies_from_ones : (o : ℕ) (s : List Bool) (n m : ℕ) → m ≡ n + o → bodies_from (replicate o true ++ s) n ≡ bodies_from s m
bodies_from_ones zero s n m e = ap (bodies_from s) (omega arith)
bodies_from_ones (suc o) s n m e =
    bodies_from_none true (replicate o true ++ s) n (no_flag_one (replicate o true ++ s))
    ∙ bodies_from_ones o s (suc n) m (omega arith)

bodies_from_ahead : (o : ℕ) (s : List Bool) (n m : ℕ) → starts_with flag (ahead o s) ≡ false → m ≡ n + suc o
    → bodies_from (ahead o s) n ≡ bodies_from s m
bodies_from_ahead o s n m is e = bodies_from_none false (replicate o true ++ s) n is ∙ bodies_from_ones o s (suc n) m (omega arith)

-- the bits of a flag without its last zero
abbrev pub opening : List Bool
opening = false ∷ replicate 6 true

module _ (i : ℕ) (seen : List Bool) where
  -- fewer than six ones and a zero: the new zero is held back
  pub behind_few : (o : ℕ) (r : List Bool) → o < 6
      → bodies_behind (ahead o (false ∷ r)) i seen ≡ bodies_behind (ahead 0 r) i (seen ++ (false ∷ replicate o true))
  behind_few o r h = bodies_behind_ahead o (false ∷ r) i seen (no_flag_few o r h)

  -- seven ones: none is held back
  pub behind_seven : (r : List Bool) → bodies_behind (ahead 7 r) i seen ≡ bodies_behind r i (seen ++ (false ∷ replicate 7 true))
  behind_seven r = bodies_behind_ahead 7 r i seen (no_flag_seven r)

  -- six ones and a zero: a flag, whose last zero is held back
  pub behind-flag : (r : List Bool) → 8 ≤ length seen
      → bodies_behind (ahead 6 (false ∷ r)) i seen
      ≡ record { opening = i; closing = i + length seen; bits = drop 8 seen } ∷ bodies_behind (ahead 0 r) (i + length seen) opening
  behind-flag r long =
      rw (
        bodies_behind_flag false (replicate 6 true ++ (false ∷ r)) i seen (flag_six r) long,
        bodies_behind_ones 6 (false ∷ r) (i + length seen) (false ∷ []),
      )

  pub behind_shared : (r : List Bool) → length seen < 8
      → bodies_behind (ahead 6 (false ∷ r)) i seen ≡ bodies_behind (ahead 0 r) (i + length seen) opening
  behind_shared r short =
      bodies_behind_shared false (replicate 6 true ++ (false ∷ r)) i seen (flag_six r) short
      ∙ bodies_behind_ones 6 (false ∷ r) (i + length seen) (false ∷ [])

  -- no more bits
  pub behind_end : (o : ℕ) → o < 7 → bodies_behind (ahead o []) i seen ≡ []
  unfolding bodies_behind
  behind_end o h = bodies_behind_ahead o [] i seen (no_flag_end o h)

-- the same where no flag is read yet
module _ (n : ℕ) where
  pub from_few : (o : ℕ) (r : List Bool) (m : ℕ) → o < 6 → m ≡ n + suc o
      → bodies_from (ahead o (false ∷ r)) n ≡ bodies_from (ahead 0 r) m
  from_few o r m h e = bodies_from_ahead o (false ∷ r) n m (no_flag_few o r h) e

  pub from_seven : (r : List Bool) (m : ℕ) → m ≡ n + 8 → bodies_from (ahead 7 r) n ≡ bodies_from r m
  from_seven r m e = bodies_from_ahead 7 r n m (no_flag_seven r) e

  pub from_flag : (r : List Bool) → bodies_from (ahead 6 (false ∷ r)) n ≡ bodies_behind (ahead 0 r) n opening
  from_flag r =
      bodies_from_flag false (replicate 6 true ++ (false ∷ r)) n (flag_six r) ∙ bodies_behind_ones 6 (false ∷ r) n (false ∷ [])

  pub from_end : (o : ℕ) → o < 7 → bodies_from (ahead o []) n ≡ []
  unfolding bodies_from
  from_end o h = bodies_from_ahead o [] n (n + suc o) (no_flag_end o h) refl

  pub from_one : (r : List Bool) → bodies_from (true ∷ r) n ≡ bodies_from r (suc n)
  from_one r = bodies_from_none true r n (no_flag_one r)
