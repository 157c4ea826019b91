-- The register after two bytes, at once. What sixteen zeros make of a register is linear, and so is the closed form; a linear map of 16 bits is determined by
-- what it makes of each of them, which is computed.
use Prim.Native.Nat.{ℕ, zero, suc, ◌+◌, ◌*◌, ◌/◌, ◌%◌, ◌^◌, ◌≤◌, ◌<◌}
use native.Mathlib.Nat.{pow-suc, mod-lt, add-zero, one-mul}
use native.Mathlib.Omega.{arith}
use mathlib.Core.Bool.{Bool, true, false, xor}
use mathlib.Core.List.{◌++◌}
use mathlib.Core.Path.{◌≡◌, refl, sym, ap, ◌∙◌}
use lib.Bits.{bit_xor, xor_shr, xor_mod, xor_block, xor_lt, xor_shifted}
use lib.Dec.{eqb}
use lib.ListN.{replicate}
use lib.Pow.{pow_pos, pow_mono, split, shr_le, shr_lt}
use borrow.Author.Tests.{eqb-true, eqb-false}
use Rattle.bits.specs.Bits.{odd, low_bits, byte_bits}
use Rattle.bits.proofs.Computed.{all_below, each_below}
use Rattle.bits.proofs.Fields.{low_bits_split}
use Rattle.fcs.specs.Fcs.{poly, divided, fcs_bit, fcs_run}
use Rattle.fcs.proofs.Bytewise.{bits_in, zeros_sum}
use Rattle.fcs.proofs.Laws.{fcs_bit_lt}
use Rattle.fcs.proofs.Xor.{xor_assoc, xor_swap}

-- maps of 16 bits that keep sums
record Linear (f : ℕ → ℕ) : Type 0 where
  small : (u : ℕ) → u < 2 ^ 16 → f u < 2 ^ 16
  sum : (u v : ℕ) → u < 2 ^ 16 → v < 2 ^ 16 → f (bit_xor u v) ≡ bit_xor (f u) (f v)

-- two sums in another order
xor_four : (a b c d : ℕ) → a < 2 ^ 16 → b < 2 ^ 16 → c < 2 ^ 16 → d < 2 ^ 16 → bit_xor (bit_xor a b) (bit_xor c d) ≡ bit_xor (bit_xor a c) (bit_xor b d)
xor_four a b c d h i j k =
    sym (xor_assoc 16 (bit_xor a b) c d (xor_lt 16 a b h i) j k) ∙ ap (λ (n : ℕ). bit_xor n d) (xor_swap 16 a b c h i j)
    ∙ xor_assoc 16 (bit_xor a c) b d (xor_lt 16 a c h j) i k

same : Linear (λ x. x)
same = record { small = λ u h. h; sum = λ u v h k. refl }

added : (f g : ℕ → ℕ) → Linear f → Linear g → Linear (λ x. bit_xor (f x) (g x))
added f g l m =
    record {
      small = λ u h. xor_lt 16 (f u) (g u) (l.small u h) (m.small u h);
      sum = λ u v h k.
          (λ i. bit_xor (l.sum u v h k i) (m.sum u v h k i))
          ∙ xor_four (f u) (f v) (g u) (g v) (l.small u h) (l.small v k) (m.small u h) (m.small v k);
    }

up : (n : ℕ) → Linear (λ x. x * 2 ^ n % 2 ^ 16)
up n =
    record {
      small = λ u h. mod-lt (u * 2 ^ n) (pow_pos 16);
      sum = λ u v h k. ap (λ (m : ℕ). m % 2 ^ 16) (shifted u v) ∙ xor_mod (u * 2 ^ n) (v * 2 ^ n) 16;
    }
  where
    shifted : (u v : ℕ) → bit_xor u v * 2 ^ n ≡ bit_xor (u * 2 ^ n) (v * 2 ^ n)
    shifted u v =
        sym
        ((λ i. bit_xor (sym (add-zero (u * 2 ^ n)) i) (sym (add-zero (v * 2 ^ n)) i)) ∙ xor_block n u v 0 0 (pow_pos n) (pow_pos n)
        ∙ add-zero (bit_xor u v * 2 ^ n))

down : (n : ℕ) (f : ℕ → ℕ) → Linear f → Linear (λ x. f x / 2 ^ n)
down n f l =
    record {
      small = λ u h. le_lt (shr_le (f u) n) (l.small u h);
      sum = λ u v h k. ap (λ (m : ℕ). m / 2 ^ n) (l.sum u v h k) ∙ xor_shr (f u) (f v) n;
    }
  where
    le_lt : {a b c : ℕ} → a ≤ b → b < c → a < c
    le_lt h k = omega arith

-- the closed form
unfoldable pub spread : ℕ → ℕ
spread x = bit_xor (bit_xor (bit_xor (bit_xor x (x * 2 ^ 4 % 2 ^ 16)) (x * 2 ^ 8 % 2 ^ 16)) (x * 2 ^ 11 % 2 ^ 16)) (x * 2 ^ 12 % 2 ^ 16)

unfoldable pub after_two : ℕ → ℕ
after_two x = bit_xor (bit_xor (spread x) (spread x / 2 ^ 5)) (spread x / 2 ^ 12)

spread_linear : Linear spread
unfolding spread
spread_linear = added _ _ (added _ _ (added _ _ (added _ _ same (up 4)) (up 8)) (up 11)) (up 12)

after_two_linear : Linear after_two
unfolding after_two
after_two_linear = added _ _ (added _ _ spread_linear (down 5 spread spread_linear)) (down 12 spread spread_linear)

-- sixteen zeros
zeros : ℕ → ℕ
zeros x = fcs_run x (replicate 16 false)

run_lt : (k x : ℕ) → x < 2 ^ 16 → fcs_run x (replicate k false) < 2 ^ 16
unfolding fcs_run
run_lt zero x h = h
run_lt (suc k) x h = run_lt k (fcs_bit x false) (fcs_bit_lt false h)

zeros_linear : Linear zeros
unfolding zeros
zeros_linear = record { small = run_lt 16; sum = zeros_sum 16 }

-- each bit
bit_right : ℕ → Bool
bit_right k = eqb (zeros (2 ^ k)) (after_two (2 ^ k))

bits_computed : all_below bit_right 16 ≡ true
unfolding all_below bit_right zeros fcs_run fcs_bit divided odd xor poly spread after_two
bits_computed = refl

none_computed : zeros 0 ≡ after_two 0
unfolding zeros fcs_run fcs_bit divided odd xor poly spread after_two
none_computed = refl

bit : (k : ℕ) → k < 16 → zeros (2 ^ k) ≡ after_two (2 ^ k)
unfolding bit_right
bit k h = eqb-true (zeros (2 ^ k)) (after_two (2 ^ k)) (each_below bit_right 16 k bits_computed h)

-- all of them
agree : (k x : ℕ) → k ≤ 16 → x < 2 ^ k → zeros x ≡ after_two x
agree zero x h l =
    let z : x ≡ 0 = omega arith in
    rw z none_computed
agree (suc k) x h l = go (eqb (x / 2 ^ k) 0) refl (λ y m. agree k y (omega arith) m)
  where
    most : 2 ^ k ≤ 2 ^ 15
    most = pow_mono {i = k} {j = 15} (omega arith)

    p : 2 ^ suc k ≡ 2 ^ k * 2
    p = pow-suc 2 k

    parts : x / 2 ^ k * 2 ^ k + x % 2 ^ k ≡ x
    parts = split x k

    low : x % 2 ^ k < 2 ^ k
    low = mod-lt x (pow_pos k)

    go : (t : Bool) → eqb (x / 2 ^ k) 0 ≡ t → ((y : ℕ) → y < 2 ^ k → zeros y ≡ after_two y) → zeros x ≡ after_two x
    go true e below =
        let none : x / 2 ^ k ≡ 0 = eqb-true (x / 2 ^ k) 0 e in
        let product : x / 2 ^ k * 2 ^ k ≡ 0 * 2 ^ k = ap (λ (n : ℕ). n * 2 ^ k) none in
        below x (omega (arith, parts, low))
    go false e below =
        let some : x / 2 ^ k ≡ 0 → ⊥ = eqb-false (x / 2 ^ k) 0 e in
        let r : ℕ = x % 2 ^ k in
        let s : suc k ≡ 1 + k = omega arith in
        let one : x / 2 ^ k ≡ 1 = omega (arith, shr_lt 1 k (rw s at l)) in
        let is : x ≡ bit_xor (2 ^ k) r =
        sym (ap (λ (n : ℕ). bit_xor n r) (sym (one-mul (2 ^ k))) ∙ xor_shifted 1 k r low ∙ ap (λ (n : ℕ). n * 2 ^ k + r) (sym one) ∙ parts) in
        let h' : 2 ^ k < 2 ^ 16 = omega (arith, most) in
        let r' : r < 2 ^ 16 = omega (arith, most, low) in
        ap zeros is ∙ zeros_linear.sum (2 ^ k) r h' r' ∙ (λ i. bit_xor (bit k (omega arith) i) (below r low i))
        ∙ sym (ap after_two is ∙ after_two_linear.sum (2 ^ k) r h' r')

-- the register after two bytes
pub fcs_two_at_once : (r a b : ℕ) → r < 2 ^ 16 → a < 256 → b < 256 → after_two (bit_xor r (a + 256 * b)) ≡ fcs_run r (byte_bits a ++ byte_bits b)
unfolding byte_bits zeros
fcs_two_at_once r a b h k l =
    let w : ℕ = a + 256 * b in
    let w' : w < 2 ^ 16 = omega arith in
    let e : a + b * 2 ^ 8 ≡ w = omega arith in
    sym
    (ap (fcs_run r) (sym (low_bits_split 8 8 a b k)) ∙ ap (λ (n : ℕ). fcs_run r (low_bits 16 n)) e ∙ bits_in 16 r w h w' w'
    ∙ agree 16 (bit_xor r w) (omega arith) (xor_lt 16 r w h w'))
