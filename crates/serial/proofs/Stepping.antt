-- What the functions' proofs cite, on plain values: the steps of a reader, whether a flag gives a packet, and turns of reading.
use Prim.Native.Nat.{ℕ, suc, ◌+◌, ◌-◌, ◌*◌, ◌≤◌, ◌<◌}
use mathlib.Core.Bool.{Bool, true, false, cond, not, ◌&&◌, and-true, and-false, false≢true}
use Rattle.std.specs.Prelude.{Option, None, Some}
use mathlib.Core.List.{List, [], ◌∷◌}
use mathlib.Core.Path.{◌≡◌, refl, sym, ◌∙◌}
use native.Mathlib.Numerals.{add-one}
use native.Mathlib.Omega.{arith}
use borrow.Author.Tests.{eq-eqb, ne_eqb, le-leb, lt-leb, leb-true, leb-false}
use lib.ListN.{length, take, drop, get_or, length-take, drop_of_length-le}
use lib.Seq.{length-take-le, drop-cons}
use lib.Dec.{eqb, leb}
use Rattle.fcs.specs.Fcs.{fcs_of}
use Rattle.hdlc.specs.Bodies.{fcs_right, packet}
use Rattle.hdlc.proofs.WithFcs.{fcs_right-take}
use Rattle.serial.specs.declared.Line.{Line}
use Rattle.serial.specs.declared.Reading.{Reading}
use Rattle.serial.specs.Octets.{is_flag, is_escape, toggled, fits}
use Rattle.serial.specs.Frames.{passing}
use Rattle.serial.specs.Machine.{opened, keep, taken, step, passes, ended, stopped, read_on, reading, length_given}

-- ---- steps

module _ (l : Line) (b : ℕ) where
  pub taken-behind : l.escape ≡ true → taken l b ≡ keep l (toggled b)
  unfolding taken
  taken-behind e = rw e

  pub taken-escape : l.escape ≡ false → is_escape b ≡ true → taken l b ≡ record { inside = true; escape = true; count = l.count; bytes = l.bytes }
  unfolding taken
  taken-escape e h = rw (e, h)

  pub taken-plain : l.escape ≡ false → is_escape b ≡ false → taken l b ≡ keep l b
  unfolding taken
  taken-plain e h = rw (e, h)

  pub step-flag : is_flag b ≡ true → step l b ≡ opened
  unfolding step
  step-flag f = rw f

  pub step_inside : is_flag b ≡ false → l.inside ≡ true → step l b ≡ taken l b
  unfolding step
  step_inside f i = rw (f, i)

  pub step-outside : is_flag b ≡ false → l.inside ≡ false → step l b ≡ l
  unfolding step
  step-outside f i = rw (f, i)

-- ---- whether a flag gives a packet

-- the length of a packet is that of packet and FCS, less 2
pub length-packet : (bytes : List ℕ) → length (packet bytes) ≡ length bytes - 2
unfolding packet
length-packet bytes = length-take-le (length bytes - 2) bytes (omega arith)

-- a packet of too few bytes does not pass, and one of too many
pub passing_short : (bytes : List ℕ) → length bytes < 4 → passing bytes ≡ false
unfolding passing fits
passing_short bytes h = rw (length-packet, lt-leb 2 (length bytes - 2) (omega arith)) (and-false (fcs_right bytes))

pub passing_long : (bytes : List ℕ) → 21 < length bytes → passing bytes ≡ false
unfolding passing fits
passing_long bytes h =
    rw (length-packet, lt-leb (length bytes - 2) 19 (omega arith), and-false (leb 2 (length bytes - 2))) (and-false (fcs_right bytes))

module _ (l : Line) where
  pub passes-outside : l.inside ≡ false → passes l ≡ false
  unfolding passes
  passes-outside e = rw e

  pub passes-escape : l.escape ≡ true → passes l ≡ false
  unfolding passes
  passes-escape e = rw (e, and-false l.inside)

  pub passes_short : l.count < 4 → passes l ≡ false
  unfolding passes
  passes_short h =
      let few : length (take l.count l.bytes) < 4 = rw length-take (omega arith) in
      rw (passing_short (take l.count l.bytes) few) (and-false (l.inside && not l.escape && leb l.count 21))

  pub passes_long : 21 < l.count → passes l ≡ false
  unfolding passes
  passes_long h = rw (lt-leb l.count 21 h, and-false (l.inside && not l.escape))

  -- a packet given is not empty
  pub passes-least : passes l ≡ true → 4 ≤ l.count
  passes-least e = go (leb 4 l.count) refl
    where
      go : (t : Bool) → leb 4 l.count ≡ t → 4 ≤ l.count
      go true h = leb-true 4 l.count h
      go false h = absurd (false≢true (sym (passes_short (leb-false 4 l.count h)) ∙ e))

  -- and has at most 19 bytes
  pub passes-most : passes l ≡ true → l.count ≤ 21
  passes-most e = go (leb l.count 21) refl
    where
      go : (t : Bool) → leb l.count 21 ≡ t → l.count ≤ 21
      go true h = leb-true l.count 21 h
      go false h = absurd (false≢true (sym (passes_long (leb-false l.count 21 h)) ∙ e))

  module _ (inside : l.inside ≡ true) (plain : l.escape ≡ false) where
    pub passes-held : l.count ≤ 21 → passes l ≡ passing (take l.count l.bytes)
    unfolding passes
    passes-held h = rw (inside, plain, le-leb l.count 21 h)

    -- a packet of the right length is given exactly if its FCS is right
    module _ (r : ℕ) (lo : 4 ≤ l.count) (hi : l.count ≤ 21) (long : length l.bytes ≡ 21) (is : r ≡ fcs_of (take (l.count - 2) l.bytes)) where
      passes-fcs : passes l ≡ eqb (get_or l.bytes (l.count - 2) 0 + 256 * get_or l.bytes (l.count - 2 + 1) 0) r
      unfolding passing fits
      passes-fcs =
          let there : l.count ≤ length l.bytes = omega arith in
          passes-held hi
          ∙ rw (
            length-packet,
            length-take-le l.count l.bytes there,
            le-leb 2 (l.count - 2) (omega arith),
            le-leb (l.count - 2) 19 (omega arith),
            fcs_right-take l.count l.bytes (omega arith) there,
            ← is,
          )
          (and-true (eqb (get_or l.bytes (l.count - 2) 0 + 256 * get_or l.bytes (l.count - 2 + 1) 0) r))

      pub packet-right : get_or l.bytes (l.count - 2) 0 + 256 * get_or l.bytes (l.count - 2 + 1) 0 ≡ r
          → Some (l.count - 2) ≡ cond (passes l) (Some (l.count - 2)) None
      packet-right e = rw (passes-fcs, eq-eqb _ _ e)

      pub packet-wrong : (get_or l.bytes (l.count - 2) 0 + 256 * get_or l.bytes (l.count - 2 + 1) 0 ≡ r → ⊥)
          → None ≡ cond (passes l) (Some (l.count - 2)) None
      packet-wrong e = rw (passes-fcs, ne_eqb _ _ e)

-- ---- one turn of reading

-- b is the byte at number at, l the record before it
module _ (l : Line) (bs : List ℕ) (at : ℕ) (h : at < length bs) where
  read_cons : read_on l at (drop at bs)
      ≡ cond (is_flag (get_or bs at 0) && passes l) (stopped l (at + 1)) (read_on (step l (get_or bs at 0)) (at + 1) (drop (at + 1) bs))
  unfolding read_on
  read_cons = rw (drop-cons bs at 0 h, add-one)

  -- it is no flag
  pub read_plain : (r : Line) → is_flag (get_or bs at 0) ≡ false → r ≡ step l (get_or bs at 0)
      → read_on r (at + 1) (drop (at + 1) bs) ≡ read_on l at (drop at bs)
  read_plain r f s = rw (read_cons, f, s)

  -- it is a flag, and p is the length of the packet that it gives, if it gives one
  module _ (p : Option ℕ) (f : is_flag (get_or bs at 0) ≡ true) (is : p ≡ cond (passes l) (Some (l.count - 2)) None) where
    pub read_none : (r : Line) → p ≡ None → r ≡ step l (get_or bs at 0) → read_on r (at + 1) (drop (at + 1) bs) ≡ read_on l at (drop at bs)
    read_none r z s = sym (read_cons ∙ rw f (go (passes l) (sym is ∙ z)))
      where
        go : (t : Bool) → cond t (Some (l.count - 2)) None ≡ None
            → cond t (stopped l (at + 1)) (read_on (step l (get_or bs at 0)) (at + 1) (drop (at + 1) bs)) ≡ read_on r (at + 1) (drop (at + 1) bs)
        go true q = cc
        go false q = rw s

    pub read-packet : (n : ℕ) → p ≡ Some n → (r : Line) → r ≡ opened → record { line = r; read = at + 1; packet = Some n; frame = l.bytes } ≡ read_on l at (drop at bs)
    unfolding stopped
    read-packet n some r o = sym (read_cons ∙ rw f (go (passes l) (sym is ∙ some)))
      where
        go : (t : Bool) → cond t (Some (l.count - 2)) None ≡ Some n
            → cond t (stopped l (at + 1)) (read_on (step l (get_or bs at 0)) (at + 1) (drop (at + 1) bs))
            ≡ record { line = r; read = at + 1; packet = Some n; frame = l.bytes }
        go true e = let same : l.count - 2 ≡ n = cc in rw (o, ← same)
        go false e = cc

-- no byte is left
pub read_end : (l : Line) (bs : List ℕ) (at : ℕ) → length bs ≡ at → ended l (length bs) ≡ read_on l at (drop at bs)
unfolding read_on
read_end l bs at h =
    let all : length bs ≤ at = omega arith in
    rw (drop_of_length-le bs all, h)

-- ---- the packet of a reading call

read_length : (l : Line) (n : ℕ) (bs : List ℕ) → length_given (read_on l n bs) ≤ 19
unfolding read_on ended stopped length_given
read_length l n [] = omega arith
read_length l n (b ∷ bs) = go (is_flag b) (passes l) refl (read_length (step l b) (suc n) bs)
  where
    go : (s t : Bool) → passes l ≡ t → length_given (read_on (step l b) (suc n) bs) ≤ 19
        → length_given (cond {A = Reading} (s && t) (stopped l (suc n)) (read_on (step l b) (suc n) bs)) ≤ 19
    go true true e h = omega (arith, passes-most l e)
    go true false e h = h
    go false t e h = h

pub reading-length : (l : Line) (bs : List ℕ) → length_given (reading l bs) ≤ 19
unfolding reading
reading-length l bs = read_length l 0 bs
