-- Bits gathered in bytes: more bits behind them, a byte stored, bits that stood in the bytes before, and the last ones taken off again.
use Prim.Native.Nat.{ℕ, zero, suc, ◌+◌, ◌-◌, ◌*◌, ◌/◌, ◌%◌, ◌^◌, ◌≤◌, ◌<◌}
use native.Mathlib.Nat.{add_comm, min-le_left, le_trans, le_of_eq, zero-mod}
use native.Mathlib.Omega.{arith}
use mathlib.Core.Bool.{Bool, true, false}
use mathlib.Core.List.{List, [], ◌∷◌, ◌++◌, append-nil}
use mathlib.Core.Path.{◌≡◌, refl, sym, ap, ◌∙◌}
use lib.ListN.{length, take, drop, get_or, set, replicate, length-append, length-take, length-drop, drop_of_length-le}
use lib.Dec.{ltb, eqb, lit<}
use borrow.Author.Tests.{eqb-true, eqb-false, ltb-true, ltb-false}
use lib.Pow.{pow_mono, shr_lt, mod-pow-add}
use lib.Seq.{take_all, take-nil, take-append-le, take-append_seam, drop-append-le, drop-drop, take-take, set_out}
use Rattle.bits.specs.Bits.{odd, low_bits, bit_value, number_of, fill_bytes}
use Rattle.bits.proofs.Fields.{low_bits_split, split_lt}
use Rattle.bits.proofs.Bits.{length-low_bits, length-fill_bytes, number_of-low_bits, number_of_lt, low_bits-number_of, bit_value_lt}
use Rattle.words.specs.declared.Gathered.{Gathered}
use Rattle.words.specs.Gathering.{Gathers}
use Rattle.words.proofs.Numbers.{low_bits_mod, take-low_bits, drop-low_bits}

-- ---- lists of bits in bytes

-- a front of a front, and what is behind a byte in a front
drop-take : {A : Type 0} (k m : ℕ) (l : List A) → drop k (take (k + m) l) ≡ take m (drop k l)
drop-take zero m l = let e : 0 + m ≡ m = omega arith in ap (λ (i : ℕ). take i l) e
drop-take (suc k) m [] = let e : suc k + m ≡ suc (k + m) = omega arith in ap (λ (i : ℕ). drop (suc k) (take i [])) e ∙ sym (take-nil m)
drop-take (suc k) m (x ∷ l) = let e : suc k + m ≡ suc (k + m) = omega arith in ap (λ (i : ℕ). drop (suc k) (take i (x ∷ l))) e ∙ drop-take k m l

eight_suc : (i : ℕ) → 8 * suc i ≡ 8 + 8 * i
eight_suc i = omega arith

-- the bytes of a front that begins with a whole byte
fill_front : (n i : ℕ) (y : List Bool) → fill_bytes (suc n) (take (8 * suc i) y) ≡ number_of (take 8 y) ∷ fill_bytes n (take (8 * i) (drop 8 y))
unfolding fill_bytes
fill_front n i y =
    ap (λ (k : ℕ). fill_bytes (suc n) (take k y)) (eight_suc i)
    ∙ (λ j. number_of (take-take 8 (8 + 8 * i) y (omega arith) j) ∷ fill_bytes n (drop-take 8 (8 * i) y j))

fill_cons : (n : ℕ) (y : List Bool) → fill_bytes (suc n) y ≡ number_of (take 8 y) ∷ fill_bytes n (drop 8 y)
unfolding fill_bytes
fill_cons n y = refl

fill_none : (n : ℕ) → fill_bytes (suc n) [] ≡ 0 ∷ fill_bytes n []
unfolding fill_bytes number_of
fill_none n = refl

fill_nil : (y : List Bool) → fill_bytes 0 y ≡ []
unfolding fill_bytes
fill_nil y = refl

drop-suc_byte : (i : ℕ) (y : List Bool) → drop (8 * suc i) y ≡ drop (8 * i) (drop 8 y)
drop-suc_byte i y = ap (λ (k : ℕ). drop k y) (eight_suc i) ∙ sym (drop-drop (8 * i) 8 y)

-- a byte written behind whole bytes
pub fill_next : (n i : ℕ) (y : List Bool) → 8 * suc i ≤ length y →
    set (fill_bytes n (take (8 * i) y)) i (number_of (take 8 (drop (8 * i) y))) ≡ fill_bytes n (take (8 * suc i) y)
fill_next zero i y h = ap (λ (l : List ℕ). set l i (number_of (take 8 (drop (8 * i) y)))) (fill_nil (take (8 * i) y)) ∙ sym (fill_nil (take (8 * suc i) y))
fill_next (suc n) zero y h =
    ap (λ (l : List ℕ). set l 0 (number_of (take 8 y))) (fill_none n) ∙ sym (fill_front n 0 y)
fill_next (suc n) (suc i) y h =
    (λ j. set (fill_front n i y j) (suc i) (number_of (take 8 (drop-suc_byte i y j))))
    ∙ ap (λ (l : List ℕ). number_of (take 8 y) ∷ l) (fill_next n i (drop 8 y) (rw length-drop (omega arith)))
    ∙ sym (fill_front n (suc i) y)

-- fewer bits than a byte has
short : (y : List Bool) → length y < 8 * 1 → length y ≤ 8
short y h = omega arith

-- the last byte, which is not whole, written and taken off
pub fill_last : (n i : ℕ) (y : List Bool) → length y < 8 * suc i →
    set (fill_bytes n (take (8 * i) y)) i (number_of (drop (8 * i) y)) ≡ fill_bytes n y
fill_last zero i y h = ap (λ (l : List ℕ). set l i (number_of (drop (8 * i) y))) (fill_nil (take (8 * i) y)) ∙ sym (fill_nil y)
fill_last (suc n) zero y h =
    ap (λ (l : List ℕ). set l 0 (number_of y)) (fill_none n)
    ∙ sym (fill_cons n y ∙ (λ j. number_of (take_all 8 y (omega arith) j) ∷ fill_bytes n (drop_of_length-le y (short y h) j)))
fill_last (suc n) (suc i) y h =
    (λ j. set (fill_front n i y j) (suc i) (number_of (drop-suc_byte i y j)))
    ∙ ap (λ (l : List ℕ). number_of (take 8 y) ∷ l) (fill_last n i (drop 8 y) (rw length-drop (omega arith)))
    ∙ sym (fill_cons n y)

pub fill_without : (n i : ℕ) (y : List Bool) → length y < 8 * suc i → set (fill_bytes n y) i 0 ≡ fill_bytes n (take (8 * i) y)
fill_without zero i y h = ap (λ (l : List ℕ). set l i 0) (fill_nil y) ∙ sym (fill_nil (take (8 * i) y))
fill_without (suc n) zero y h =
    ap (λ (l : List ℕ). set l 0 0) (fill_cons n y) ∙ ap (λ (l : List Bool). 0 ∷ fill_bytes n l) (drop_of_length-le y (short y h))
    ∙ sym (fill_none n)
fill_without (suc n) (suc i) y h =
    ap (λ (l : List ℕ). set l (suc i) 0) (fill_cons n y)
    ∙ ap (λ (l : List ℕ). number_of (take 8 y) ∷ l) (fill_without n i (drop 8 y) (rw length-drop (omega arith)))
    ∙ sym (fill_front n i y)

-- a byte read
pub get_or-fill : (n i : ℕ) (y : List Bool) → i < n → get_or (fill_bytes n y) i 0 ≡ number_of (take 8 (drop (8 * i) y))
get_or-fill zero i y h = absurd (omega arith)
get_or-fill (suc n) zero y h = ap (λ (l : List ℕ). get_or l 0 0) (fill_cons n y)
get_or-fill (suc n) (suc i) y h =
    ap (λ (l : List ℕ). get_or l (suc i) 0) (fill_cons n y) ∙ get_or-fill n i (drop 8 y) (omega arith)
    ∙ ap (λ (l : List Bool). number_of (take 8 l)) (sym (drop-suc_byte i y))

-- ---- the first bits of a number

pub number_of-take : (k : ℕ) (y : List Bool) → number_of (take k y) ≡ number_of y % 2 ^ k
unfolding number_of
number_of-take zero y = omega arith
number_of-take (suc k) [] = sym (zero-mod (2 ^ suc k))
number_of-take (suc k) (b ∷ y) =
    let n : ℕ = bit_value b + 2 * number_of y in
    let small : bit_value b < 2 = bit_value_lt b in
    let half : n / 2 ≡ number_of y = omega arith in
    let low : n % 2 ≡ bit_value b = omega arith in
    let s : k + 1 ≡ suc k = omega arith in
    let parts : n % 2 ^ suc k ≡ n / 2 % 2 ^ k * 2 + n % 2 = ap (λ (i : ℕ). n % 2 ^ i) (sym s) ∙ mod-pow-add n k 1 in
    let front : number_of (take k y) ≡ n / 2 % 2 ^ k = number_of-take k y ∙ ap (λ (i : ℕ). i % 2 ^ k) (sym half) in
    omega arith

-- ---- the last bits taken off

-- the first byte and the one behind it, where there are no more
cut_first : (n k : ℕ) (y : List Bool) → k < 8 → length y ≤ 16 →
    set (set (fill_bytes (suc n) y) 0 (number_of (take 8 y) % 2 ^ k)) 1 0 ≡ fill_bytes (suc n) (take k y)
cut_first n k y h l =
    let none : drop 8 (take k y) ≡ [] = drop_of_length-le (take k y) {i = 8} (le_trans (le_of_eq (length-take k y)) (le_trans (min-le_left k (length y)) (omega arith))) in
    ap (λ (b : List ℕ). set (set b 0 (number_of (take 8 y) % 2 ^ k)) 1 0) (fill_cons n y)
    ∙ (λ j. number j ∷ behind n j)
    ∙ sym (fill_cons n (take k y) ∙ ap (λ (r : List Bool). number_of (take 8 (take k y)) ∷ fill_bytes n r) none)
  where
    number : number_of (take 8 y) % 2 ^ k ≡ number_of (take 8 (take k y))
    number =
        sym (number_of-take k (take 8 y)) ∙ ap number_of (take-take k 8 y (omega arith))
        ∙ ap number_of (sym (take_all 8 (take k y) (le_trans (le_of_eq (length-take k y)) (le_trans (min-le_left k (length y)) (omega arith)))))

    behind : (m : ℕ) → set (fill_bytes m (drop 8 y)) 0 0 ≡ fill_bytes m []
    behind zero = ap (λ (b : List ℕ). set b 0 0) (fill_nil (drop 8 y)) ∙ sym (fill_nil [])
    behind (suc m) =
        ap (λ (b : List ℕ). set b 0 0) (fill_cons m (drop 8 y))
        ∙ ap (λ (r : List Bool). 0 ∷ fill_bytes m r) (drop_of_length-le (drop 8 y) {i = 8} (rw length-drop (omega arith))) ∙ sym (fill_none m)

pub fill-cut : (n i k : ℕ) (y : List Bool) → i < n → k < 8 → length y ≤ 8 * i + 16 →
    set (set (fill_bytes n y) i (number_of (take 8 (drop (8 * i) y)) % 2 ^ k)) (suc i) 0 ≡ fill_bytes n (take (8 * i + k) y)
fill-cut zero i k y h s l = absurd (omega arith)
fill-cut (suc n) zero k y h s l =
    let e : 8 * 0 + k ≡ k = omega arith in
    cut_first n k y s (omega arith) ∙ ap (λ (m : ℕ). fill_bytes (suc n) (take m y)) (sym e)
fill-cut (suc n) (suc i) k y h s l =
    let e : 8 * suc i + k ≡ 8 + (8 * i + k) = omega arith in
    ap (λ (b : List ℕ). set (set b (suc i) (number_of (take 8 (drop (8 * suc i) y)) % 2 ^ k)) (suc (suc i)) 0) (fill_cons n y)
    ∙ ap (λ (r : List Bool). number_of (take 8 y) ∷ set (set (fill_bytes n (drop 8 y)) i (number_of (take 8 r) % 2 ^ k)) (suc i) 0) (drop-suc_byte i y)
    ∙ ap (λ (b : List ℕ). number_of (take 8 y) ∷ b) (fill-cut n i k (drop 8 y) (omega arith) s (rw length-drop (omega arith)))
    ∙ sym
    (ap (λ (m : ℕ). fill_bytes (suc n) (take m y)) e ∙ fill_cons n (take (8 + (8 * i + k)) y)
    ∙ (λ j. number_of (take-take 8 (8 + (8 * i + k)) y (omega arith) j) ∷ fill_bytes n (drop-take 8 (8 * i + k) y j)))

-- ---- what is gathered

-- bits behind those gathered
pub gathers_more : (g : Gathered) (stored : List ℕ) (y : List Bool) (n v : ℕ) → v < 2 ^ n → Gathers g stored y →
    Gathers (record { bytes = g.bytes; len = g.len + n; rest = g.rest + v * 2 ^ g.len }) stored (y ++ low_bits n v)
gathers_more g stored y n v h old =
    let within : 8 * g.bytes ≤ length y = omega (arith, old.all) in
    record {
      all = length-append y (low_bits n v) ∙ rw length-low_bits (omega (arith, old.all));
      rest =
          drop-append-le (8 * g.bytes) y (low_bits n v) within ∙ ap (λ (r : List Bool). r ++ low_bits n v) old.rest
          ∙ sym (low_bits_split g.len n g.rest v old.small);
      small = split_lt g.len n g.rest v old.small h;
      whole = old.whole ∙ ap (fill_bytes 21) (sym (take-append-le (8 * g.bytes) y (low_bits n v) within));
    }

-- a whole byte stored
pub gathers_byte : (bytes len rest : ℕ) (stored : List ℕ) (y : List Bool) → 8 ≤ len → Gathers (record { bytes = bytes; len = len; rest = rest }) stored y →
    Gathers (record { bytes = bytes + 1; len = len - 8; rest = rest / 256 }) (set stored bytes (rest % 256)) y
gathers_byte bytes len rest stored y h old =
    let m : ℕ = len - 8 in
    let s : 8 + m ≡ len = omega arith in
    let one : bytes + 1 ≡ suc bytes = omega arith in
    let next : 8 * suc bytes ≡ 8 * bytes + 8 = omega arith in
    let bits : drop (8 * bytes) y ≡ low_bits (8 + m) rest = old.rest ∙ ap (λ (i : ℕ). low_bits i rest) (sym s) in
    let byte : number_of (take 8 (drop (8 * bytes) y)) ≡ rest % 256 =
    ap (λ (r : List Bool). number_of (take 8 r)) bits ∙ ap number_of (take-low_bits 8 m rest ∙ sym (low_bits_mod 8 rest)) ∙ number_of-low_bits 8 (rest % 256) (omega arith) in
    record {
      all = omega (arith, old.all);
      rest =
          ap (λ (i : ℕ). drop (8 * i) y) one ∙ ap (λ (i : ℕ). drop i y) next ∙ sym (drop-drop 8 (8 * bytes) y) ∙ ap (drop 8) bits
          ∙ drop-low_bits 8 m rest;
      small = shr_lt m 8 (rw (add_comm m 8, s) old.small);
      whole =
          ap (λ (b : List ℕ). set b bytes (rest % 256)) old.whole
          ∙ ap (set (fill_bytes 21 (take (8 * bytes) y)) bytes) (sym byte)
          ∙ fill_next 21 bytes y (omega (arith, old.all)) ∙ ap (λ (i : ℕ). fill_bytes 21 (take (8 * i) y)) (sym one);
    }

-- the bits that the bytes hold before
module _ (stored : List ℕ) (count : ℕ) (y : List Bool) (all : length y ≡ count) (old : stored ≡ fill_bytes 21 y) where
  pub gathers_kept : count / 8 < 21 → Gathers (record { bytes = count / 8; len = count % 8; rest = get_or stored (count / 8) 0 }) (set stored (count / 8) 0) y
  gathers_kept h =
      let i : ℕ = count / 8 in
      let end : List Bool = drop (8 * i) y in
      let few : length end ≡ count % 8 = length-drop (8 * i) y ∙ omega arith in
      let number : get_or stored i 0 ≡ number_of end =
      ap (λ (b : List ℕ). get_or b i 0) old ∙ get_or-fill 21 i y h ∙ ap number_of (take_all 8 end (omega arith)) in
      let same : take (count % 8) end ≡ end = take_all (count % 8) end (omega arith) in
      record {
        all = omega arith;
        rest = sym (ap (low_bits (count % 8)) (number ∙ ap number_of (sym same)) ∙ low_bits-number_of (count % 8) end ∙ whole end same few);
        small = rw (number, ← same) (number_of_lt (count % 8) end);
        whole = ap (λ (b : List ℕ). set b i 0) old ∙ fill_without 21 i y (omega arith);
      }
    where
      whole : (e : List Bool) → take (count % 8) e ≡ e → length e ≡ count % 8 → take (count % 8) e ++ replicate (count % 8 - length (take (count % 8) e)) false ≡ e
      whole e s f =
          let z : count % 8 - length e ≡ 0 = omega arith in
          rw (s, z) (append-nil e)

  pub gathers_full : 21 ≤ count / 8 → count ≤ 169 → (168 < count → y ≡ replicate 169 false) →
      Gathers (record { bytes = 21; len = count - 168; rest = 0 }) stored y
  unfolding low_bits odd fill_bytes number_of
  gathers_full h most zeros = go (eqb count 169) refl
    where
      go : (t : Bool) → eqb count 169 ≡ t → Gathers (record { bytes = 21; len = count - 168; rest = 0 }) stored y
      go true e =
          let n : count ≡ 169 = eqb-true count 169 e in
          let z : y ≡ replicate 169 false = zeros (omega arith) in
          rw n (record { all = all ∙ n; rest = ap (drop 168) z; small = lit< tt; whole = old ∙ rw z })
      go false e =
          let other : count ≡ 169 → ⊥ = eqb-false count 169 e in
          let n : count ≡ 168 = omega arith in
          rw n (record { all = all ∙ n; rest = drop_of_length-le y {i = 168} (omega arith); small = lit< tt; whole = old ∙ ap (fill_bytes 21) (sym (take_all 168 y (omega arith))) })

-- ---- the bits that are not held back

fill-take : (n : ℕ) (y : List Bool) → fill_bytes n (take (8 * n) y) ≡ fill_bytes n y
fill-take zero y = fill_nil (take 0 y) ∙ sym (fill_nil y)
fill-take (suc n) y = fill_front n n y ∙ ap (λ (b : List ℕ). number_of (take 8 y) ∷ b) (fill-take n (drop 8 y)) ∙ sym (fill_cons n y)

-- the rest stored too
pub gathers_all : (g : Gathered) (stored : List ℕ) (y : List Bool) → g.len < 8 → Gathers g stored y → set stored g.bytes (g.rest % 256) ≡ fill_bytes 21 y
gathers_all g stored y h old =
    let most : 2 ^ g.len ≤ 2 ^ 7 = pow_mono {i = g.len} {j = 7} (omega arith) in
    let same : g.rest % 256 ≡ g.rest = omega (arith, old.small) in
    let number : number_of (drop (8 * g.bytes) y) ≡ g.rest = ap number_of old.rest ∙ number_of-low_bits g.len g.rest old.small in
    (λ j. set (old.whole j) g.bytes ((same ∙ sym number) j)) ∙ fill_last 21 g.bytes y (omega (arith, old.all))

pub cut-held : (x v : List Bool) (end : ℕ) → end ≡ length x → end ≤ 168 → length v ≤ 6 →
    set (set (fill_bytes 21 (x ++ v)) (end / 8) (get_or (fill_bytes 21 (x ++ v)) (end / 8) 0 % 2 ^ (end % 8))) (end / 8 + 1) 0 ≡ fill_bytes 21 x
cut-held x v end e most few = go (ltb (end / 8) 21) refl
  where
    y : List Bool
    y = x ++ v

    first : take end y ≡ x
    first = ap (λ (i : ℕ). take i y) e ∙ take-append_seam x v

    go : (t : Bool) → ltb (end / 8) 21 ≡ t →
        set (set (fill_bytes 21 y) (end / 8) (get_or (fill_bytes 21 y) (end / 8) 0 % 2 ^ (end % 8))) (end / 8 + 1) 0 ≡ fill_bytes 21 x
    go true q =
        let i : ℕ = end / 8 in
        let inside : i < 21 = ltb-true i 21 q in
        let one : i + 1 ≡ suc i = omega arith in
        let parts : 8 * i + end % 8 ≡ end = omega arith in
        (λ j. set (set (fill_bytes 21 y) i (get_or-fill 21 i y inside j % 2 ^ (end % 8))) (one j) 0)
        ∙ fill-cut 21 i (end % 8) y inside (omega arith) (rw (length-append x v) (omega arith))
        ∙ ap (λ (m : ℕ). fill_bytes 21 (take m y)) parts ∙ ap (fill_bytes 21) first
    go false q =
        let i : ℕ = end / 8 in
        let out : 21 ≤ i = ltb-false i 21 q in
        let n : length (fill_bytes 21 y) ≡ 21 = length-fill_bytes 21 y in
        let all : end ≡ 168 = omega arith in
        let b : ℕ = get_or (fill_bytes 21 y) i 0 % 2 ^ (end % 8) in
        ap (λ (l : List ℕ). set l (i + 1) 0) (set_out (fill_bytes 21 y) i b (omega arith))
        ∙ set_out (fill_bytes 21 y) (i + 1) 0 (omega arith) ∙ sym (fill-take 21 y)
        ∙ ap (λ (m : ℕ). fill_bytes 21 (take m y)) (sym all) ∙ ap (fill_bytes 21) first
