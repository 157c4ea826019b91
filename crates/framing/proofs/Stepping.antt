-- What the functions' proofs cite, on plain values: what a step writes, whether a body passes and what it gives, and whether a
-- framing is in range, each as the code finds it.
use Prim.Native.Nat.{ℕ, ◌+◌, ◌-◌, ◌*◌, ◌/◌, ◌%◌, ◌≤◌, ◌<◌}
use mathlib.Core.Bool.{Bool, true, false, cond}
use mathlib.Core.List.{List, ◌∷◌, ◌++◌}
use mathlib.Core.Path.{◌≡◌, refl, sym, ◌∙◌}
use native.Mathlib.Omega.{arith}
use borrow.Author.Tests.{lt-ltb, le-leb, lt-leb, eq-eqb, ne_eqb}
use lib.ListN.{length, take, drop, get_or, replicate, length-append, length-replicate}
use lib.Seq.{sets}
use lib.Dec.{eqb, leb}
use Rattle.bits.specs.Bits.{bits_of, Bytes}
use Rattle.bits.proofs.Bits.{fill_bytes-bits_of}
use Rattle.bits.proofs.Lists.{sets_append}
use Rattle.fcs.specs.Fcs.{fcs_of}
use Rattle.hdlc.proofs.WithFcs.{fcs_right-take}
use Rattle.framing.specs.declared.Framing.{Framing}
use Rattle.framing.specs.declared.Check.TheVariants.{Packet, Spoilt, Nothing}
use Rattle.std.specs.Prelude.{Option, None, Some}
use Rattle.framing.specs.Machine.{held, phase_after, keep, whole, verdict_of, check}
use Rattle.framing.specs.Overwritten.{overwritten}
use Rattle.framing.specs.Range.{all_zero, kept, phase_right, in_range}

-- ---- the bits held back

-- two runs written one behind the other
pub overwritten_runs : (old mid new : List ℕ) (at m n : ℕ) (a b : Bool) → length new ≡ length old → Bytes new
    → bits_of mid ≡ sets (bits_of old) at (replicate m a) → bits_of new ≡ sets (bits_of mid) (at + m) (replicate n b)
    → new ≡ overwritten old at (replicate m a ++ replicate n b)
overwritten_runs old mid new at m n a b l B p q =
    sym (fill_bytes-bits_of new B)
    ∙ rw (l, q, p, sets_append (bits_of old) at (replicate m a) (replicate n b), length-replicate)

-- a plain zero or none, and the ones
zeros_ones : (t : Bool) (bs : List Bool) → cond t (false ∷ bs) bs ≡ replicate (cond t 1 0) false ++ bs
zeros_ones true bs = refl
zeros_ones false bs = refl

-- at most one zero
pub plain_le : (phase m : ℕ) → m ≡ cond (eqb phase 3) 1 0 → m ≤ 1
plain_le phase m e = rw e (go (eqb phase 3))
  where
    go : (t : Bool) → cond t 1 0 ≤ 1
    go true = omega arith
    go false = omega arith

-- ---- a zero read in a body: p is the next phase, m the number of plain zeros

module _ (f : Framing) (p m : ℕ) (hp : p ≡ phase_after f.ones) (hm : m ≡ cond (eqb f.phase 3) 1 0) where
  held_runs : held f ≡ replicate m false ++ replicate f.ones true
  unfolding held
  held_runs = rw hm (zeros_ones (eqb f.phase 3) (replicate f.ones true))

  count_held : f.count + length (held f) ≡ f.count + m + f.ones
  count_held = rw (held_runs, length-append) (simp length-replicate (omega arith))

  -- the bits held back have room
  pub keep_room : (new : List ℕ) → f.count + m + f.ones ≤ 168 → length f.bits ≡ 21
      → new ≡ overwritten f.bits f.count (replicate m false ++ replicate f.ones true)
      → record { phase = p; ones = 0; count = f.count + m + f.ones; bits = new } ≡ keep f
  unfolding keep
  keep_room new h l e = rw (count_held, le-leb _ _ h, held_runs, hp, e, l)

  -- they have none
  pub keep-full : 168 < f.count + m + f.ones → record { phase = p; ones = 0; count = 169; bits = replicate 21 0 } ≡ keep f
  unfolding keep
  keep-full h = rw (count_held, lt-leb _ _ h, hp)

-- ---- the body check

-- a body of the right length passes exactly if its FCS is right
module _ (f : Framing) (r : ℕ) (three : f.phase ≡ 3) (lo : 32 ≤ f.count) (hi : f.count ≤ 168) (bytes : f.count % 8 ≡ 0)
    (long : length f.bits ≡ 21) (is : r ≡ fcs_of (take (f.count / 8 - 2) f.bits)) where
  whole-fcs : whole f ≡ eqb (get_or f.bits (f.count / 8 - 2) 0 + 256 * get_or f.bits (f.count / 8 - 2 + 1) 0) r
  unfolding whole
  whole-fcs =
      let two : 2 ≤ f.count / 8 = omega arith in
      let fits : f.count / 8 ≤ length f.bits = omega arith in
      rw
      (eq-eqb _ _ three, le-leb _ _ lo, le-leb _ _ hi, eq-eqb _ _ bytes, fcs_right-take (f.count / 8) f.bits two fits, is)

  pub verdict_of_right : get_or f.bits (f.count / 8 - 2) 0 + 256 * get_or f.bits (f.count / 8 - 2 + 1) 0 ≡ r
      → Some (f.count / 8 - 2) ≡ verdict_of f
  unfolding verdict_of
  verdict_of_right e = rw (whole-fcs, eq-eqb _ _ e)

  pub verdict_of_wrong : (get_or f.bits (f.count / 8 - 2) 0 + 256 * get_or f.bits (f.count / 8 - 2 + 1) 0 ≡ r → ⊥)
      → None ≡ verdict_of f
  unfolding verdict_of
  verdict_of_wrong e = rw (whole-fcs, ne_eqb _ _ e)

-- what a body gives, from whether it passes
module _ (f : Framing) (w : Option ℕ) (is : w ≡ verdict_of f) where
  pub check-packet : (n : ℕ) → w ≡ Some n → Packet n ≡ check f
  unfolding verdict_of check
  check-packet n e = go (whole f) (sym is ∙ e)
    where
      go : (t : Bool) → cond t (Some (f.count / 8 - 2)) None ≡ Some n
          → Packet n ≡ cond t (Packet (f.count / 8 - 2)) (cond (leb 32 f.count) Spoilt Nothing)
      go true q = cc
      go false q = cc

  check_broken : w ≡ None → check f ≡ cond (leb 32 f.count) Spoilt Nothing
  unfolding verdict_of check
  check_broken e = go (whole f) (sym is ∙ e)
    where
      go : (t : Bool) → cond t (Some (f.count / 8 - 2)) None ≡ None
          → cond t (Packet (f.count / 8 - 2)) (cond (leb 32 f.count) Spoilt Nothing) ≡ cond (leb 32 f.count) Spoilt Nothing
      go true q = cc
      go false q = refl

  pub check_spoilt : w ≡ None → 32 ≤ f.count → Spoilt ≡ check f
  check_spoilt e h = rw (check_broken e, le-leb _ _ h)

  pub check_nothing : w ≡ None → f.count < 32 → Nothing ≡ check f
  check_nothing e h = rw (check_broken e, lt-leb _ _ h)

-- ---- the range

-- whether a framing is in range, from whether its unused places are 0
module _ (f : Framing) (n : ℕ) (z : Bool) (few : f.ones < 7) (low : f.count < 170) (is : n ≡ kept f)
    (zeros : z ≡ all_zero (drop n (bits_of f.bits))) where
  pub in_range_zeros : z ≡ true → phase_right f ≡ in_range f
  unfolding in_range
  in_range_zeros e = rw (lt-ltb _ _ few, lt-ltb _ _ low, ← is, ← zeros, e)

  pub in_range_other : z ≡ false → false ≡ in_range f
  unfolding in_range
  in_range_other e = rw (lt-ltb _ _ few, lt-ltb _ _ low, ← is, ← zeros, e)
