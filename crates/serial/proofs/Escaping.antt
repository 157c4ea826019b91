-- Laws of escaped bytes: which are escaped, how many bytes they take, and what a writer leaves piece by piece.
use Prim.Native.Nat.{ℕ, suc, ◌+◌, ◌*◌, ◌/◌, ◌%◌, ◌≤◌, ◌<◌}
use mathlib.Core.Bool.{Bool, true, false, cond, ◌||◌}
use mathlib.Core.List.{List, [], ◌∷◌, ◌++◌, flatten, append_assoc, append-nil}
use mathlib.Core.Path.{◌≡◌, refl, sym, ap, ◌∙◌}
use native.Mathlib.Numerals.{add-one}
use native.Mathlib.Omega.{arith}
use borrow.Author.Tests.{eqb-true}
use lib.ListN.{length, drop, get_or, set, length-append}
use lib.Seq.{sets, drop-cons}
use lib.Dec.{eqb}
use Rattle.bits.proofs.Lists.{sets_append}
use Rattle.fcs.specs.Fcs.{fcs_of, low_first}
use Rattle.hdlc.specs.Frames.{with_fcs}
use Rattle.serial.specs.Octets.{flag, escape, is_flag, is_escape, toggled, escaped, escaped_bytes, line_frame}

-- ---- one byte

-- a flag and an escape take two bytes, any other byte takes one
pub escaped_two : (b : ℕ) → (is_flag b || is_escape b) ≡ true → escaped b ≡ escape ∷ toggled b ∷ []
unfolding escaped
escaped_two b e = rw e

pub escaped_one : (b : ℕ) → (is_flag b || is_escape b) ≡ false → escaped b ≡ b ∷ []
unfolding escaped
escaped_one b e = rw e

pub length-escaped : (b : ℕ) → length (escaped b) ≤ 2
unfolding escaped
length-escaped b = go (is_flag b || is_escape b)
  where
    go : (t : Bool) → length (cond t (escape ∷ toggled b ∷ []) (b ∷ [])) ≤ 2
    go true = omega arith
    go false = omega arith

-- the place behind a byte
pub place_below : (b at behind : ℕ) → behind ≡ at + length (escaped b) → behind ≤ at + 2
place_below b at behind e = omega (arith, e, length-escaped b)

-- what holds of a flag, of an escape, and of any other byte holds of all
pub byte_cases : (P : ℕ → Type 0) (b : ℕ) → P flag → P escape → (is_flag b ≡ false → is_escape b ≡ false → P b) → P b
unfolding is_flag is_escape
byte_cases P b f e other = go (eqb b flag) refl (eqb b escape) refl
  where
    go : (s : Bool) → eqb b flag ≡ s → (t : Bool) → eqb b escape ≡ t → P b
    go true s t h = rw (eqb-true b flag s) f
    go false s true h = rw (eqb-true b escape h) e
    go false s false h = other s h

-- ---- bytes

pub escaped_bytes_cons : (b : ℕ) (bs : List ℕ) → escaped_bytes (b ∷ bs) ≡ escaped b ++ escaped_bytes bs
unfolding escaped_bytes flatten
escaped_bytes_cons b bs = refl

pub escaped_bytes_append : (xs ys : List ℕ) → escaped_bytes (xs ++ ys) ≡ escaped_bytes xs ++ escaped_bytes ys
unfolding escaped_bytes flatten
escaped_bytes_append [] ys = refl
escaped_bytes_append (x ∷ xs) ys = ap (λ l. escaped x ++ l) (escaped_bytes_append xs ys) ∙ sym (append_assoc (escaped x) (escaped_bytes xs) (escaped_bytes ys))

pub length-escaped_bytes : (bs : List ℕ) → length (escaped_bytes bs) ≤ 2 * length bs
unfolding escaped_bytes flatten
length-escaped_bytes [] = omega arith
length-escaped_bytes (b ∷ bs) = rw (length-append (escaped b) (escaped_bytes bs)) (omega (arith, length-escaped b, length-escaped_bytes bs))

-- ---- bytes written one by one

-- the first of those left is written
module _ (bytes output new : List ℕ) (i at behind : ℕ) (h : i < length bytes)
    (next : behind ≡ at + length (escaped (get_or bytes i 0))) (put : new ≡ sets output at (escaped (get_or bytes i 0))) where
  left : escaped_bytes (drop i bytes) ≡ escaped (get_or bytes i 0) ++ escaped_bytes (drop (i + 1) bytes)
  left = rw (add-one, drop-cons bytes i 0 h) (escaped_bytes_cons (get_or bytes i 0) (drop (suc i) bytes))

  pub place_next : behind + length (escaped_bytes (drop (i + 1) bytes)) ≡ at + length (escaped_bytes (drop i bytes))
  place_next = rw (next, left, length-append) (omega arith)

  pub written_next : sets new behind (escaped_bytes (drop (i + 1) bytes)) ≡ sets output at (escaped_bytes (drop i bytes))
  written_next =
      rw (put, next, left) (sym (sets_append output at (escaped (get_or bytes i 0)) (escaped_bytes (drop (i + 1) bytes))))

-- ---- a frame written piece by piece

-- a piece behind another
written_behind : (l a b : List ℕ) (at : ℕ) {n : ℕ} {one two : List ℕ} → n ≡ at + length a → one ≡ sets l at a → two ≡ sets one n b
    → two ≡ sets l at (a ++ b)
written_behind l a b at k e f = rw (f, k, e) (sym (sets_append l at a b))

module _ (p output : List ℕ) {one two three four five : List ℕ} {low high end : ℕ}
    (first : one ≡ set output 0 flag)
    (at_low : low ≡ 1 + length (escaped_bytes p)) (packet : two ≡ sets one 1 (escaped_bytes p))
    (at_high : high ≡ low + length (escaped (fcs_of p % 256))) (low_byte : three ≡ sets two low (escaped (fcs_of p % 256)))
    (at-end : end ≡ high + length (escaped (fcs_of p / 256))) (high_byte : four ≡ sets three high (escaped (fcs_of p / 256)))
    (last : five ≡ set four end flag) where
  frame-pieces : escaped_bytes (with_fcs p) ≡ (escaped_bytes p ++ escaped (fcs_of p % 256)) ++ escaped (fcs_of p / 256)
  unfolding with_fcs low_first escaped_bytes flatten
  frame-pieces =
      escaped_bytes_append p (fcs_of p % 256 ∷ fcs_of p / 256 ∷ [])
      ∙ rw (append-nil, ← (append_assoc (escaped_bytes p) (escaped (fcs_of p % 256)) (escaped (fcs_of p / 256))))

  at_fcs : high ≡ 1 + length (escaped_bytes p ++ escaped (fcs_of p % 256))
  at_fcs = rw length-append (omega arith)

  at_flag : end ≡ 1 + length (escaped_bytes (with_fcs p))
  at_flag = rw (frame-pieces, length-append) (omega (arith, at_fcs))

  pub length_written : end + 1 ≡ length (line_frame p)
  unfolding line_frame
  length_written = sym (rw length-append (omega (arith, at_flag)))

  pub frame_written : five ≡ sets output 0 (line_frame p)
  unfolding line_frame
  frame_written =
      let low-put = written_behind one (escaped_bytes p) (escaped (fcs_of p % 256)) 1 at_low packet low_byte in
      let all = written_behind one (escaped_bytes p ++ escaped (fcs_of p % 256)) (escaped (fcs_of p / 256)) 1 at_fcs low-put high_byte in
      let bytes : four ≡ sets one 1 (escaped_bytes (with_fcs p)) = all ∙ rw frame-pieces in
      written_behind one (escaped_bytes (with_fcs p)) (flag ∷ []) 1 at_flag bytes last ∙ rw first
