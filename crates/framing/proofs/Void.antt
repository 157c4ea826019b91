-- Void bodies: seven ones in a row stay there whatever follows, a zero parts the ones before it from those behind it, and a
-- void body gives nothing.
use Prim.Native.Nat.{ℕ, zero, suc, ◌<◌}
use native.Mathlib.Omega.{arith}
use mathlib.Core.Bool.{Bool, true, false, ◌||◌, or_assoc, or-true}
use mathlib.Core.List.{List, [], ◌∷◌, ◌++◌}
use mathlib.Core.Path.{◌≡◌, refl, sym}
use lib.ListN.{replicate}
use Rattle.hdlc.specs.Bodies.{nothing, starts_with, holds, void, judge}

-- a pattern that bits begin with, or hold, stays there whatever follows
starts_with_append : (p b c : List Bool) → starts_with p b ≡ true → starts_with p (b ++ c) ≡ true
unfolding starts_with
starts_with_append [] b c h = refl
starts_with_append (x ∷ p) [] c h = absurd (let z : ◌≡◌ {A = ℕ} 0 1 = cc in omega arith)
starts_with_append (true ∷ p) (true ∷ b) c h = starts_with_append p b c h
starts_with_append (true ∷ p) (false ∷ b) c h = h
starts_with_append (false ∷ p) (true ∷ b) c h = h
starts_with_append (false ∷ p) (false ∷ b) c h = starts_with_append p b c h

holds_append : (p b c : List Bool) → holds p b ≡ true → holds p (b ++ c) ≡ true
unfolding holds starts_with
holds_append [] [] [] h = refl
holds_append [] [] (x ∷ c) h = refl
holds_append (y ∷ p) [] c h = absurd (let z : ◌≡◌ {A = ℕ} 0 1 = cc in omega arith)
holds_append p (x ∷ b) c h = go (starts_with p (x ∷ b)) refl (holds_append p b c)
  where
    go : (t : Bool) → starts_with p (x ∷ b) ≡ t → (holds p b ≡ true → holds p (b ++ c) ≡ true) → holds p (x ∷ (b ++ c)) ≡ true
    go true is later = rw (starts_with_append p (x ∷ b) c is)
    go false is later = rw (later (rw is at h)) (or-true (starts_with p (x ∷ (b ++ c))))

pub void_append : (b c : List Bool) → void b ≡ true → void (b ++ c) ≡ true
unfolding void
void_append b c h = holds_append (replicate 7 true) b c h

-- ones in a row are before a zero or behind it
starts_with_ones_zero : (k : ℕ) (b c : List Bool)
    → starts_with (replicate k true) (b ++ (false ∷ c)) ≡ starts_with (replicate k true) b
unfolding starts_with
starts_with_ones_zero zero b c = refl
starts_with_ones_zero (suc k) [] c = refl
starts_with_ones_zero (suc k) (true ∷ b) c = starts_with_ones_zero k b c
starts_with_ones_zero (suc k) (false ∷ b) c = refl

holds_ones_zero : (k : ℕ) (b c : List Bool)
    → holds (replicate (suc k) true) (b ++ (false ∷ c)) ≡ (holds (replicate (suc k) true) b || holds (replicate (suc k) true) c)
unfolding holds starts_with
holds_ones_zero k [] c = refl
holds_ones_zero k (x ∷ b) c =
    rw (starts_with_ones_zero (suc k) (x ∷ b) c, holds_ones_zero k b c)
    (sym (or_assoc (starts_with (replicate (suc k) true) (x ∷ b)) (holds (replicate (suc k) true) b)
    (holds (replicate (suc k) true) c)))

-- fewer ones than k hold no k
starts_with_fewer : (k o : ℕ) → o < k → starts_with (replicate k true) (replicate o true) ≡ false
unfolding starts_with
starts_with_fewer zero o h = absurd (omega arith)
starts_with_fewer (suc k) zero h = refl
starts_with_fewer (suc k) (suc o) h = starts_with_fewer k o (omega arith)

holds_fewer : (k o : ℕ) → o < k → holds (replicate k true) (replicate o true) ≡ false
unfolding holds
holds_fewer k zero h = starts_with_fewer k zero h
holds_fewer k (suc o) h = rw (starts_with_fewer k (suc o) h, holds_fewer k o (omega arith))

pub void_ones : (o : ℕ) → o < 7 → void (replicate o true) ≡ false
unfolding void
void_ones o h = holds_fewer 7 o h

pub void-zero_ones : (b : List Bool) (o : ℕ) → o < 7 → void b ≡ false → void (b ++ (false ∷ replicate o true)) ≡ false
unfolding void
void-zero_ones b o h is = rw (holds_ones_zero 6 b (replicate o true), is, holds_fewer 7 o h)

-- seven do, alone or behind a zero
pub void_seven : void (replicate 7 true) ≡ true
unfolding void holds starts_with
void_seven = refl

pub void-zero_seven : (b : List Bool) → void (b ++ (false ∷ replicate 7 true)) ≡ true
unfolding void holds starts_with
void-zero_seven b = rw (holds_ones_zero 6 b (replicate 7 true)) (or-true (holds (replicate 7 true) b))

-- "Others, void ones too, give none"
pub void_gives_nothing : (body : List Bool) → void body ≡ true → judge body ≡ nothing
unfolding judge
void_gives_nothing body is = rw is
