-- A byte stuffed as `Chunk::of` does it, computed at each of the 5 * 256 cases against the definition.
use Prim.Native.Nat.{ℕ, ◌+◌, ◌-◌, ◌*◌, ◌/◌, ◌%◌, ◌^◌, ◌≤◌, ◌<◌}
use native.Mathlib.Omega.{arith}
use mathlib.Core.Bool.{Bool, true, not, cond, ◌&&◌, ◌||◌}
use mathlib.Core.List.{List}
use mathlib.Core.Path.{◌≡◌, refl}
use lib.Count.{count_leading_zeros, count_trailing_zeros}
use lib.Dec.{leb, ltb, eqb}
use lib.ListN.{length}
use borrow.Author.Tests.{eqb-true, leb-true, ltb-true, eq-eqb, ne_eqb}
use Rattle.bits.specs.Bits.{odd, low_bits, byte_bits, bit_value, number_of}
use Rattle.bits.proofs.Fields.{number_of-fits, low_bits-of}
use Rattle.bits.proofs.Computed.{all_below, each_below}
use Rattle.bits.proofs.Tests.{and_left, and_right, or_then, or_else_lem}
use Rattle.hdlc.specs.Stuffing.{stuff_from, free_after}
use Rattle.hdlc.specs.Chunks.{five_ones, StuffedByte}

-- what the code computes of a byte b with f ones free before it
abbrev pub shifted : ℕ → ℕ → ℕ
shifted f b = (b + 1) * 2 ^ (4 - f) % 2 ^ 32

abbrev pub first : ℕ → ℕ → ℕ
first f b = five_ones (shifted f b - 1)

abbrev pub first_zero : ℕ → ℕ → ℕ
first_zero f b = count_trailing_zeros 32 (first f b) + f + 1

abbrev pub with_zero : ℕ → ℕ → ℕ
with_zero x k = x % 2 ^ k + x / 2 ^ k * 2 ^ (k + 1)

abbrev pub one : ℕ → ℕ → ℕ
one f b = with_zero b (first_zero f b)

abbrev pub second : ℕ → ℕ → ℕ
second f b = five_ones (b / 2 ^ first_zero f b)

abbrev pub second_zero : ℕ → ℕ → ℕ
second_zero f b = first_zero f b + count_trailing_zeros 32 (second f b) + 6

abbrev pub two : ℕ → ℕ → ℕ
two f b = with_zero (one f b) (second_zero f b)

-- these bits are the byte stuffed
right : ℕ → ℕ → ℕ → ℕ → Bool
right f b value len =
    eqb (length (stuff_from (byte_bits b) f)) len && eqb (number_of (stuff_from (byte_bits b) f)) value

-- with no zero, one zero and two zeros put in
none_right : ℕ → ℕ → Bool
none_right f b = leb 1 (shifted f b) && (not (eqb (first f b) 0) || right f b b 8)

one_right : ℕ → ℕ → Bool
one_right f b = eqb (first f b) 0 || (leb (first_zero f b) 8 && ltb (one f b) 512 && (not (eqb (second f b) 0) || right f b (one f b) 9))

two_right : ℕ → ℕ → Bool
two_right f b = eqb (first f b) 0 || (eqb (second f b) 0 || (leb (second_zero f b) 9 && right f b (two f b) 10))

none_computed : all_below (λ f. all_below (none_right f) 256) 5 ≡ true
unfolding all_below none_right right stuff_from byte_bits low_bits odd number_of bit_value
none_computed = refl

one_computed : all_below (λ f. all_below (one_right f) 256) 5 ≡ true
unfolding all_below one_right right stuff_from count_trailing_zeros byte_bits low_bits odd number_of bit_value
one_computed = refl

two_computed : all_below (λ f. all_below (two_right f) 256) 5 ≡ true
unfolding all_below two_right right stuff_from count_trailing_zeros byte_bits low_bits odd number_of bit_value
two_computed = refl

-- the ones free behind a byte, by the ones that end it
abbrev pub ones_ending : ℕ → ℕ
ones_ending b = count_leading_zeros 8 (255 - b)

free_right : ℕ → ℕ → Bool
free_right f b =
    leb (ones_ending b) 8 &&
    eqb (free_after (byte_bits b) f)
    (cond (eqb b 255) (cond (ltb 2 f) (f - 3) (f + 2)) (cond (ltb (ones_ending b) 5) (4 - ones_ending b) (9 - ones_ending b)))

free_computed : all_below (λ f. all_below (free_right f) 256) 5 ≡ true
unfolding all_below free_right free_after count_leading_zeros byte_bits low_bits odd
free_computed = refl

-- these bits are the byte stuffed
pub record Right (f b value len : ℕ) : Type 0 where
  pub bits : low_bits len value ≡ stuff_from (byte_bits b) f
  pub fits : value < 2 ^ len

right_at : (f b value len : ℕ) → right f b value len ≡ true → Right f b value len
unfolding right
right_at f b value len t =
    let s : List Bool = stuff_from (byte_bits b) f in
    let long : length s ≡ len = eqb-true _ _ (and_left _ _ t) in
    let number : number_of s ≡ value = eqb-true _ _ (and_right (eqb (length s) len) _ t) in
    record {
      bits = rw (← long, ← number) (low_bits-of s);
      fits = rw (← long, ← number) (number_of-fits s);
    }

-- the tests at a byte
module _ (f b : ℕ) (few : f ≤ 4) (byte : b < 256) where
  at_byte : (test : ℕ → ℕ → Bool) → all_below (λ n. all_below (test n) 256) 5 ≡ true → test f b ≡ true
  at_byte test t = each_below (test f) 256 b (each_below (λ n. all_below (test n) 256) 5 f t (omega arith)) byte

  pub ending-most : ones_ending b ≤ 8
  unfolding free_right
  ending-most = leb-true _ _ (and_left _ _ (at_byte free_right free_computed))

  pub free_is : free_after (byte_bits b) f
      ≡ cond (eqb b 255) (cond (ltb 2 f) (f - 3) (f + 2)) (cond (ltb (ones_ending b) 5) (4 - ones_ending b) (9 - ones_ending b))
  unfolding free_right
  free_is = eqb-true _ _ (and_right (leb (ones_ending b) 8) _ (at_byte free_right free_computed))

  pub shifted_pos : 1 ≤ shifted f b
  unfolding none_right
  shifted_pos = leb-true _ _ (and_left _ _ (at_byte none_right none_computed))

  pub none_right_lem : first f b ≡ 0 → Right f b b 8
  unfolding none_right
  none_right_lem e =
      right_at f b b 8 (or_then (eqb (first f b) 0) _ (eq-eqb _ _ e) (and_right (leb 1 (shifted f b)) _ (at_byte none_right none_computed)))

  module _ (some : first f b ≡ 0 → ⊥) where
    one_tests : (leb (first_zero f b) 8 && ltb (one f b) 512 && (not (eqb (second f b) 0) || right f b (one f b) 9)) ≡ true
    unfolding one_right
    one_tests = or_else_lem (eqb (first f b) 0) _ (ne_eqb _ _ some) (at_byte one_right one_computed)

    pub first_zero_le : first_zero f b ≤ 8
    first_zero_le = leb-true _ _ (and_left _ _ (and_left _ _ one_tests))

    pub one_lt : one f b < 512
    one_lt = ltb-true _ _ (and_right (leb (first_zero f b) 8) _ (and_left _ _ one_tests))

    pub one_right_lem : second f b ≡ 0 → Right f b (one f b) 9
    one_right_lem e =
        right_at f b (one f b) 9
        (or_then (eqb (second f b) 0) _ (eq-eqb _ _ e) (and_right (leb (first_zero f b) 8 && ltb (one f b) 512) _ one_tests))

    module _ (more : second f b ≡ 0 → ⊥) where
      two_tests : (leb (second_zero f b) 9 && right f b (two f b) 10) ≡ true
      unfolding two_right
      two_tests =
          or_else_lem (eqb (second f b) 0) _ (ne_eqb _ _ more) (or_else_lem (eqb (first f b) 0) _ (ne_eqb _ _ some) (at_byte two_right two_computed))

      pub second_zero_le : second_zero f b ≤ 9
      second_zero_le = leb-true _ _ (and_left _ _ two_tests)

      pub two-right : Right f b (two f b) 10
      two-right = right_at f b (two f b) 10 (and_right (leb (second_zero f b) 9) _ two_tests)

-- so is the chunk of these bits
pub StuffedByte-of : {f b value len : ℕ} → Right f b value len → 8 ≤ len → len ≤ 10 → StuffedByte f b (record { value = value; len = len })
StuffedByte-of r least most = record { bits = r.bits; fits = r.fits; least = least; most = most }
