-- One turn of each loop, on plain lists: what reading the bit at an index makes of what is still to be read.
use Prim.Native.Nat.{ℕ, zero, suc, ◌+◌, ◌-◌, ◌*◌, ◌/◌, ◌%◌, ◌^◌, ◌≤◌, ◌<◌, min}
use mathlib.Core.Bool.{Bool, true, false, not, ◌&&◌}
use mathlib.Core.List.{List, [], ◌∷◌, ◌++◌}
use mathlib.Core.Path.{◌≡◌, refl, ◌∙◌}
use native.Mathlib.Nat.{div-one, pow-suc}
use native.Mathlib.Numerals.{add-one}
use native.Mathlib.Omega.{arith}
use lib.ListN.{length, take, drop, get_or, length-take, length-drop, drop_of_length-le}
use lib.Seq.{take-length, drop-cons, drop-drop, drop-append-le, get_or-take}
use lib.Dec.{eqb}
use lib.Pow.{shr-shr}
use borrow.Author.Tests.{eqb-true, eqb-false, eq-eqb, ne_eqb}
use Rattle.std.specs.Bool.{Decides}
use Rattle.std.specs.List.{All, list_all}
use Rattle.std.proofs.lemmas.Bool.Decides.{same_from_decides, Decides-by_and, Decides-eqb}
use Rattle.bits.specs.Bits.{odd, low_bits, byte_bits, bits_of, Bytes}
use Rattle.bits.proofs.Bits.{length-low_bits, length-bits_of, drop-bits_of}
use Rattle.hdlc.specs.Stuffing.{end_ones}
use Rattle.framing.specs.Range.{all_zero}

-- 21 bytes are 168 bits
pub length_bits_21 : (bytes : List ℕ) → length bytes ≡ 21 → length (bits_of bytes) ≡ 168
length_bits_21 bytes l = rw (length-bits_of, l)

-- a slice up to the end
pub take_all : (n k : ℕ) (bytes : List ℕ) → length bytes ≡ n → take (n - k) (drop k bytes) ≡ drop k bytes
take_all n k bytes l = rw (← l, ← length-drop k bytes) (take-length (drop k bytes))

-- ---- bits that are all 0

-- a number is 0 exactly if its lowest bit and its half are
zero_halves : (n : ℕ) (x : Bool) → (not (odd n) && (eqb (n / 2) 0 && x)) ≡ (eqb n 0 && x)
unfolding odd
zero_halves n x = go (eqb (n % 2) 1) (eqb n 0) refl refl
  where
    go : (o z : Bool) → eqb (n % 2) 1 ≡ o → eqb n 0 ≡ z → (not o && (eqb (n / 2) 0 && x)) ≡ (z && x)
    go true true e f = absurd (omega (arith, eqb-true (n % 2) 1 e, eqb-true n 0 f))
    go true false e f = refl
    go false true e f = rw (eq-eqb (n / 2) 0 (omega (arith, eqb-true n 0 f)))
    go false false e f =
        let even : n % 2 ≡ 1 → ⊥ = eqb-false (n % 2) 1 e in
        let some : n ≡ 0 → ⊥ = eqb-false n 0 f in
        rw (ne_eqb (n / 2) 0 (λ h. some (omega arith)))

-- of a number's m lowest bits those from number k on are 0 exactly if a shift by k leaves 0
all_zero-low_bits : (m k n : ℕ) (bs : List Bool) → k ≤ m → n < 2 ^ m → all_zero (drop k (low_bits m n) ++ bs) ≡ (eqb (n / 2 ^ k) 0 && all_zero bs)
unfolding all_zero low_bits
all_zero-low_bits zero zero n bs h l = let z : n ≡ 0 = omega arith in rw z
all_zero-low_bits zero (suc k) n bs h l = absurd (omega arith)
all_zero-low_bits (suc m) zero n bs h l =
    let l' : n < 2 ^ m * 2 = rw pow-suc at l in
    let rest : all_zero (low_bits m (n / 2) ++ bs) ≡ (eqb (n / 2) 0 && all_zero bs) =
    rw div-one at (all_zero-low_bits m zero (n / 2) bs (omega arith) (omega arith)) in
    rw (div-one, rest) (zero_halves n (all_zero bs))
all_zero-low_bits (suc m) (suc k) n bs h l =
    let l' : n < 2 ^ m * 2 = rw pow-suc at l in
    let one : 1 + k ≡ suc k = omega arith in
    let e : n / 2 / 2 ^ k ≡ n / 2 ^ suc k = rw one at (shr-shr n 1 k) in
    rw (← e) (all_zero-low_bits m k (n / 2) bs (omega arith) (omega arith))

-- all bits of bytes are 0 exactly if every byte is
zero_each : (bytes : List ℕ) → Bytes bytes → list_all (λ b. eqb b 0) bytes ≡ all_zero (bits_of bytes)
unfolding bits_of byte_bits Bytes all_zero
zero_each [] B = refl
zero_each (b ∷ bs) B =
    rw (all_zero-low_bits 8 0 b (bits_of bs) (omega arith) B.0, div-one, zero_each bs B.1)

pub zero_bytes : (bytes : List ℕ) (r : Bool) → Bytes bytes → Decides r (All (λ b. b ≡ 0) bytes) → r ≡ all_zero (bits_of bytes)
zero_bytes bytes r B h =
    same_from_decides r (list_all (λ b. eqb b 0) bytes) h
    (Decides-by_and (λ b. eqb b 0) (λ b. b ≡ 0) (list_all (λ b. eqb b 0)) (λ b. Decides-eqb b 0) refl (λ _ _. refl) bytes)
    ∙ zero_each bytes B

-- the bits from bit k of byte i on
module _ (bytes : List ℕ) (i k : ℕ) (h : i < length bytes) (small : get_or bytes i 0 < 256) (l : k ≤ 8) where
  all_zero_byte : all_zero (drop k (bits_of (drop i bytes))) ≡ (eqb (get_or bytes i 0 / 2 ^ k) 0 && all_zero (bits_of (drop (i + 1) bytes)))
  unfolding bits_of byte_bits
  all_zero_byte =
      let long : k ≤ length (low_bits 8 (get_or bytes i 0)) = rw length-low_bits l in
      rw (add-one, drop-cons bytes i 0 h, drop-append-le k (low_bits 8 (get_or bytes i 0)) (bits_of (drop (suc i) bytes)) long)
      (all_zero-low_bits 8 k (get_or bytes i 0) (bits_of (drop (suc i) bytes)) l small)

  pub all_zero_some : (get_or bytes i 0 / 2 ^ k ≡ 0 → ⊥) → false ≡ all_zero (drop k (bits_of (drop i bytes)))
  all_zero_some e = rw (all_zero_byte, ne_eqb (get_or bytes i 0 / 2 ^ k) 0 e)

  pub all_zero-none : get_or bytes i 0 / 2 ^ k ≡ 0 → all_zero (bits_of (drop (i + 1) bytes)) ≡ all_zero (drop k (bits_of (drop i bytes)))
  all_zero-none e = rw (all_zero_byte, e)

-- a bit's number is its byte's and its place there
pub drop_in_byte : (bytes : List ℕ) (from : ℕ) → drop (from % 8) (bits_of (drop (from / 8) bytes)) ≡ drop from (bits_of bytes)
drop_in_byte bytes from =
    let split : 8 * (from / 8) + from % 8 ≡ from = omega arith in
    rw (← drop-bits_of (from / 8) bytes, drop-drop (from % 8) (8 * (from / 8)) (bits_of bytes), split)

-- no byte and no bit is left
pub all_zero_no_byte : (bytes : List ℕ) (i : ℕ) → length bytes ≤ i → true ≡ all_zero (bits_of (drop i bytes))
unfolding all_zero bits_of
all_zero_no_byte bytes i h = rw (drop_of_length-le bytes h)

pub all_zero_end : (bs : List Bool) (i : ℕ) → length bs ≤ i → true ≡ all_zero (drop i bs)
unfolding all_zero
all_zero_end bs i h = rw (drop_of_length-le bs h)

-- ---- the ones that end the first n bits

module _ (bs : List Bool) (n i k : ℕ) where
  module _ (b : Bool) (k' : ℕ) (hn : i < n) (h : i < length bs) (is : b ≡ get_or bs i false) where
    end_ones_cons : end_ones (drop i (take n bs)) k ≡ end_ones (b ∷ drop (i + 1) (take n bs)) k
    end_ones_cons =
        let l : i < length (take n bs) = rw length-take (omega arith) in
        rw (add-one, drop-cons (take n bs) i false l, get_or-take n bs i false hn, is)

    pub end_ones_one : b ≡ true → k' ≡ k + 1 → end_ones (drop (i + 1) (take n bs)) k' ≡ end_ones (drop i (take n bs)) k
    unfolding end_ones
    end_ones_one e s = rw (end_ones_cons, e, s, add-one k)

    pub end_ones-zero : b ≡ false → k' ≡ 0 → end_ones (drop (i + 1) (take n bs)) k' ≡ end_ones (drop i (take n bs)) k
    unfolding end_ones
    end_ones-zero e s = rw (end_ones_cons, e, s)

  pub end_ones_end : min n (length bs) ≤ i → k ≡ end_ones (drop i (take n bs)) k
  unfolding end_ones
  end_ones_end h =
      let l : length (take n bs) ≤ i = rw length-take h in
      rw (drop_of_length-le (take n bs) l)
