-- Bytes that stand in a number: they are as many as are asked for, others stand behind them, and each division by 256 leaves those behind the first.
use Prim.Native.Nat.{ℕ, zero, suc, ◌+◌, ◌-◌, ◌*◌, ◌/◌, ◌%◌, ◌<◌}
use native.Mathlib.Numerals.{add-one}
use native.Mathlib.Omega.{arith}
use mathlib.Core.List.{List, [], ◌∷◌, ◌++◌}
use mathlib.Core.Path.{◌≡◌, refl, sym, ap, ◌∙◌}
use lib.ListN.{length, drop, get_or, length-append}
use lib.Seq.{drop-cons}
use Rattle.bits.specs.Bits.{bits_of}
use Rattle.bits.proofs.Bits.{bits_of_append}
use Rattle.hdlc.specs.Leads.{led, Below}

pub led_append : (number n : ℕ) (bytes : List ℕ) → led number n bytes ≡ led number n [] ++ bytes
unfolding led
led_append number zero bytes = refl
led_append number (suc n) bytes = ap (λ (l : List ℕ). number % 256 ∷ l) (led_append (number / 256) n bytes)

pub bits_of-led : (number n : ℕ) (bytes : List ℕ) → bits_of (led number n bytes) ≡ bits_of (led number n []) ++ bits_of bytes
bits_of-led number n bytes = ap bits_of (led_append number n bytes) ∙ bits_of_append (led number n []) bytes

pub length-led : (number n : ℕ) → length (led number n []) ≡ n
unfolding led
length-led number zero = refl
length-led number (suc n) = ap suc (length-led (number / 256) n)

pub length-led-behind : (number n : ℕ) (bytes : List ℕ) → n + length bytes ≡ length (led number n bytes)
length-led-behind number n bytes = rw (led_append number n bytes, length-append) (omega (arith, length-led number n))

-- a byte below others
pub Below-sum : {byte others : ℕ} → byte < 256 → Below byte others (byte + 256 * others)
unfolding led
Below-sum {byte} {others} h =
    let low : (byte + 256 * others) % 256 ≡ byte = omega arith in
    let high : (byte + 256 * others) / 256 ≡ others = omega arith in
    record { bytes = λ n behind. rw (low, high); small = λ most l. omega arith }

-- two and three bytes, each below the next
pub led_two : {a b others two one : ℕ} → Below a one two → Below b others one → (n : ℕ) (behind : List ℕ)
    → led two (2 + n) behind ≡ a ∷ b ∷ led others n behind
led_two {a} {two = two} p q n behind =
    let e : 2 + n ≡ suc (suc n) = omega arith in
    ap (λ (k : ℕ). led two k behind) e ∙ p.bytes (suc n) behind ∙ ap (λ (l : List ℕ). a ∷ l) (q.bytes n behind)

pub led_three : {a b c others three two one : ℕ} → Below a two three → Below b one two → Below c others one → (n : ℕ) (behind : List ℕ)
    → led three (3 + n) behind ≡ a ∷ b ∷ c ∷ led others n behind
led_three {a} {three = three} p q r n behind =
    let e : 3 + n ≡ suc (2 + n) = omega arith in
    ap (λ (k : ℕ). led three k behind) e ∙ p.bytes (2 + n) behind ∙ ap (λ (l : List ℕ). a ∷ l) (led_two q r n behind)

-- where the bytes from byte i on stand in `rest`, its lowest is byte i, and those behind it stand in the quotient
module _ (number n : ℕ) {i : ℕ} (rest : ℕ) (h : i < n) (e : drop i (led number n []) ≡ led rest (n - i) []) where
  both : get_or (led number n []) i 0 ∷ drop (i + 1) (led number n []) ≡ rest % 256 ∷ led (rest / 256) (n - (i + 1)) []
  unfolding led
  both =
      let more : i < length (led number n []) = omega (arith, length-led number n) in
      let k : n - i ≡ suc (n - (i + 1)) = omega arith in
      let d : drop i (led number n []) ≡ get_or (led number n []) i 0 ∷ drop (i + 1) (led number n []) = rw add-one (drop-cons (led number n []) i 0 more) in
      sym d ∙ e ∙ rw k

  pub led_byte : get_or (led number n []) i 0 ≡ rest % 256
  led_byte = cc (both)

  pub led-behind : drop (i + 1) (led number n []) ≡ led (rest / 256) (n - (i + 1)) []
  led-behind = cc (both)
