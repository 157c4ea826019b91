-- What the machine closes, one bit at a time, told by phase, ones and the bits kept.
use Prim.Native.Nat.{ℕ, suc, ◌-◌, ◌≤◌, ◌<◌}
use native.Mathlib.Omega.{arith}
use mathlib.Core.Bool.{Bool, true, false, and-false}
use mathlib.Core.List.{List, [], ◌∷◌, ◌++◌}
use mathlib.Core.Path.{◌≡◌, refl, ◌∙◌}
use lib.Dec.{leb}
use borrow.Author.Tests.{le-leb, lt-leb}
use Rattle.framing.specs.declared.Framing.{Framing}
use Rattle.framing.specs.Machine.{empty, fresh, phase_after, step, closes}
use Rattle.framing.specs.Closings.{closed, closings}
use Rattle.framing.proofs.Framed.{framed, framed_empty, held_bits, phase_framed, ones_framed}
use Rattle.framing.proofs.Framed.{step-fresh_one, step-fresh-zero, step_one, step_seven, step-flag, step-zero_hunting, step-zero}

-- a bit that closes no body, and one that does
closings_open : (f g : Framing) (n : ℕ) (b : Bool) (r : List Bool) → closes f b ≡ false → step f b ≡ g
    → closings f n (b ∷ r) ≡ closings g (suc n) r
unfolding closings
closings_open f g n b r none e = rw (none, e)

closings-closed : (f g : Framing) (n : ℕ) (b : Bool) (r : List Bool) → closes f b ≡ true → step f b ≡ g
    → closings f n (b ∷ r) ≡ closed f (suc n) ∷ closings g (suc n) r
unfolding closings
closings-closed f g n b r one e = rw (one, e)

closes_one : (f : Framing) → closes f true ≡ false
unfolding closes
closes_one f = refl

closes-fresh : closes fresh false ≡ false
unfolding closes fresh empty
closes-fresh = refl

module _ (p o : ℕ) (x : List Bool) where
  closes_few : o < 6 → closes (framed p o x) false ≡ false
  unfolding closes
  closes_few h = rw (ones_framed p o x, lt-leb 6 o h)

  closes-outside : p < 3 → closes (framed p o x) false ≡ false
  unfolding closes
  closes-outside h = rw (phase_framed p o x, lt-leb 3 p h) (and-false (leb 6 (framed p o x).ones))

  closes_inside : o ≡ 6 → 3 ≤ p → closes (framed p o x) false ≡ true
  unfolding closes
  closes_inside e h = rw (phase_framed p o x, ones_framed p o x, e, le-leb 3 p h)

-- ---- from the start

pub closings-fresh_one : (n : ℕ) (r : List Bool) → closings fresh n (true ∷ r) ≡ closings fresh (suc n) r
closings-fresh_one n r = closings_open fresh fresh n true r (closes_one fresh) step-fresh_one

pub closings-fresh-zero : (n : ℕ) (r : List Bool) → closings fresh n (false ∷ r) ≡ closings (framed 1 0 []) (suc n) r
closings-fresh-zero n r = closings_open fresh (framed 1 0 []) n false r closes-fresh (step-fresh-zero ∙ framed_empty 1)

-- ---- behind a zero

module _ (p : ℕ) (started : 0 < p) (x : List Bool) (n : ℕ) (r : List Bool) where
  positive : p ≡ suc (p - 1)
  positive = omega arith

  pub closings_one : (o : ℕ) → o < 6 → closings (framed p o x) n (true ∷ r) ≡ closings (framed p (suc o) x) (suc n) r
  closings_one o h =
      closings_open (framed p o x) (framed p (suc o) x) n true r (closes_one (framed p o x))
      (rw positive (step_one (p - 1) o x h))

  pub closings_seven : closings (framed p 6 x) n (true ∷ r) ≡ closings fresh (suc n) r
  closings_seven = closings_open (framed p 6 x) fresh n true r (closes_one (framed p 6 x)) (rw positive (step_seven (p - 1) x))

  opens : step (framed p 6 x) false ≡ framed 2 0 []
  opens = rw positive (step-flag (p - 1) x ∙ framed_empty 2)

  pub closings_opening : p < 3 → closings (framed p 6 x) n (false ∷ r) ≡ closings (framed 2 0 []) (suc n) r
  closings_opening h = closings_open (framed p 6 x) (framed 2 0 []) n false r (closes-outside p 6 x h) opens

  pub closings_closing : 3 ≤ p
      → closings (framed p 6 x) n (false ∷ r) ≡ closed (framed p 6 x) (suc n) ∷ closings (framed 2 0 []) (suc n) r
  closings_closing h = closings-closed (framed p 6 x) (framed 2 0 []) n false r (closes_inside p 6 x refl h) opens

-- a zero behind fewer than six ones
module _ (x : List Bool) (n : ℕ) (r : List Bool) where
  pub closings-outside : (o : ℕ) → o < 6 → closings (framed 1 o x) n (false ∷ r) ≡ closings (framed 1 0 []) (suc n) r
  closings-outside o h =
      closings_open (framed 1 o x) (framed 1 0 []) n false r (closes_few 1 o x h) (step-zero_hunting o x h ∙ framed_empty 1)

  pub closings_body : (p o : ℕ) → 1 < p → o < 6
      → closings (framed p o x) n (false ∷ r) ≡ closings (framed (phase_after o) 0 (x ++ held_bits p o)) (suc n) r
  closings_body p o b h =
      closings_open (framed p o x) (framed (phase_after o) 0 (x ++ held_bits p o)) n false r (closes_few p o x h)
      (step-zero p o x b h)
