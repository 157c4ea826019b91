-- Bits of numbers: a number in two parts, its bits from one on, and bytes in a row as one number.
use Prim.Native.Nat.{ℕ, zero, suc, ◌+◌, ◌-◌, ◌*◌, ◌/◌, ◌%◌, ◌^◌, ◌≤◌, ◌<◌}
use native.Mathlib.Nat.{mod-lt}
use native.Mathlib.Omega.{arith}
use mathlib.Core.Bool.{Bool}
use mathlib.Core.List.{List, [], ◌∷◌, ◌++◌, append-nil}
use mathlib.Core.Path.{◌≡◌, refl, sym, ap, ◌∙◌}
use lib.ListN.{length, take, drop, get_or}
use lib.Pow.{split, pow_pos}
use lib.Seq.{take_at, drop_at, drop-cons, take-take, drop-drop, take-add}
use mir.Syntax.{w64}
use Rattle.std.specs.Int.{from_le_bytes}
use Rattle.std.proofs.lemmas.List.{get_or-take, get_or-drop}
use Rattle.bits.specs.Bits.{low_bits, byte_bits, bits_of}
use Rattle.bits.proofs.Fields.{low_bits_split}
use Rattle.bits.proofs.Bits.{length-low_bits, bits_of_append, take-bits_of, drop-bits_of}

-- the bits of any number in two parts
low_bits_parts : (a b n : ℕ) → low_bits (a + b) n ≡ low_bits a (n % 2 ^ a) ++ low_bits b (n / 2 ^ a)
low_bits_parts a b n =
    let e : n % 2 ^ a + n / 2 ^ a * 2 ^ a ≡ n = omega (arith, split n a) in
    ap (low_bits (a + b)) (sym e) ∙ low_bits_split a b (n % 2 ^ a) (n / 2 ^ a) (mod-lt n (pow_pos a))

-- the lowest bits of a remainder are those of the number
pub low_bits_mod : (a n : ℕ) → low_bits a (n % 2 ^ a) ≡ low_bits a n
unfolding low_bits
low_bits_mod a n =
    let e : a + 0 ≡ a = omega arith in
    sym (ap (λ k. low_bits k n) (sym e) ∙ low_bits_parts a 0 n ∙ append-nil (low_bits a (n % 2 ^ a)))

-- the first bits, and those behind them
pub take-low_bits : (a b n : ℕ) → take a (low_bits (a + b) n) ≡ low_bits a n
take-low_bits a b n =
    ap (take a) (low_bits_parts a b n) ∙ take_at (low_bits a (n % 2 ^ a)) (low_bits b (n / 2 ^ a)) a (length-low_bits a (n % 2 ^ a)) ∙ low_bits_mod a n

pub drop-low_bits : (a b n : ℕ) → drop a (low_bits (a + b) n) ≡ low_bits b (n / 2 ^ a)
drop-low_bits a b n =
    ap (drop a) (low_bits_parts a b n) ∙ drop_at (low_bits a (n % 2 ^ a)) (low_bits b (n / 2 ^ a)) a (length-low_bits a (n % 2 ^ a))

-- a part of a front that is long enough is a part of the whole
pub take-drop-take : (n k m : ℕ) (l : List Bool) → k + n ≤ m → take n (drop k (take m l)) ≡ take n (drop k l)
take-drop-take n zero m l h = take-take n m l (omega arith)
take-drop-take n (suc k) zero l h = absurd (omega arith)
take-drop-take n (suc k) (suc m) [] h = refl
take-drop-take n (suc k) (suc m) (x ∷ l) h = take-drop-take n k m l (omega arith)

-- ---- bytes in a row

-- four bytes are 32 bits of a number
pub four_bytes : (a b c d : ℕ) → a < 256 → b < 256 → c < 256 →
    low_bits 32 (a + 256 * b + 65536 * c + 16777216 * d) ≡ bits_of (a ∷ b ∷ c ∷ d ∷ [])
unfolding bits_of byte_bits
four_bytes a b c d h k l =
    let e : a + 256 * b + 65536 * c + 16777216 * d ≡ a + (b + (c + d * 2 ^ 8) * 2 ^ 8) * 2 ^ 8 = omega arith in
    rw (e, append-nil)
    (low_bits_split 8 24 a (b + (c + d * 2 ^ 8) * 2 ^ 8) h
    ∙ ap (λ (r : List Bool). low_bits 8 a ++ r)
    (low_bits_split 8 16 b (c + d * 2 ^ 8) k ∙ ap (λ (r : List Bool). low_bits 8 b ++ r) (low_bits_split 8 8 c d l)))

-- four elements from number i on
pub four_from : (l : List ℕ) (i : ℕ) → i + 4 ≤ length l →
    take 4 (drop i l) ≡ get_or l i 0 ∷ get_or l (i + 1) 0 ∷ get_or l (i + 2) 0 ∷ get_or l (i + 3) 0 ∷ []
four_from l i h =
    let a : suc i ≡ i + 1 = omega arith in
    let b : suc (i + 1) ≡ i + 2 = omega arith in
    let c : suc (i + 2) ≡ i + 3 = omega arith in
    ap (take 4)
    (drop-cons l i 0 (omega arith)
    ∙ ap (λ (r : List ℕ). get_or l i 0 ∷ r)
    (ap (λ (k : ℕ). drop k l) a ∙ drop-cons l (i + 1) 0 (omega arith)
    ∙ ap (λ (r : List ℕ). get_or l (i + 1) 0 ∷ r)
    (ap (λ (k : ℕ). drop k l) b ∙ drop-cons l (i + 2) 0 (omega arith)
    ∙ ap (λ (r : List ℕ). get_or l (i + 2) 0 ∷ r) (ap (λ (k : ℕ). drop k l) c ∙ drop-cons l (i + 3) 0 (omega arith)))))

-- four bytes, and four more behind them
pub eight-bytes : (l : List ℕ) (i x y : ℕ) → x < 2 ^ 32 → low_bits 32 x ≡ bits_of (take 4 (drop i l)) → low_bits 32 y ≡ bits_of (take 4 (drop (i + 4) l)) →
    low_bits 64 (x + 4294967296 * y) ≡ bits_of (take 8 (drop i l))
eight-bytes l i x y h e f =
    let s : x + 4294967296 * y ≡ x + y * 2 ^ 32 = omega arith in
    ap (low_bits 64) s ∙ low_bits_split 32 32 x y h ∙ rw (e, f, ← drop-drop 4 i l, ← bits_of_append, ← take-add 4 4 (drop i l))

-- the eight bytes that are read as a number
pub low_bits-eight : (l : List ℕ) (i : ℕ) → i + 8 ≤ length l → ((k : ℕ) → get_or l k 0 < 256) → (bytes : List ℕ) (n : ℕ) → bytes ≡ take 8 (drop i l) →
    n ≡ from_le_bytes w64 bytes → low_bits 64 n ≡ bits_of (take 8 (drop i l))
low_bits-eight l i h fits bytes n e f =
    let at : (k : ℕ) → k < 8 → get_or bytes k 0 ≡ get_or l (i + k) 0 = λ k s. rw e (get_or-take 8 (drop i l) k 0 s ∙ get_or-drop i l k 0) in
    let b : ℕ → ℕ = λ k. get_or l k 0 in
    let x : ℕ = b i + 256 * b (i + 1) + 65536 * b (i + 2) + 16777216 * b (i + 3) in
    let y : ℕ = b (i + 4) + 256 * b (i + 4 + 1) + 65536 * b (i + 4 + 2) + 16777216 * b (i + 4 + 3) in
    let low : low_bits 32 x ≡ bits_of (take 4 (drop i l)) =
    four_bytes (b i) (b (i + 1)) (b (i + 2)) (b (i + 3)) (fits i) (fits (i + 1)) (fits (i + 2)) ∙ ap bits_of (sym (four_from l i (omega arith))) in
    let high : low_bits 32 y ≡ bits_of (take 4 (drop (i + 4) l)) =
    four_bytes (b (i + 4)) (b (i + 4 + 1)) (b (i + 4 + 2)) (b (i + 4 + 3)) (fits (i + 4)) (fits (i + 4 + 1)) (fits (i + 4 + 2))
    ∙ ap bits_of (sym (four_from l (i + 4) (omega arith))) in
    let small : x < 2 ^ 32 = omega (arith, fits i, fits (i + 1), fits (i + 2), fits (i + 3)) in
    let five : i + 4 + 1 ≡ i + 5 = omega arith in
    let six : i + 4 + 2 ≡ i + 6 = omega arith in
    let seven : i + 4 + 3 ≡ i + 7 = omega arith in
    let zero_more : i + 0 ≡ i = omega arith in
    let both : n ≡ x + 4294967296 * y =
    f
    ∙ rw (at 0 (omega arith), at 1 (omega arith), at 2 (omega arith), at 3 (omega arith), at 4 (omega arith), at 5 (omega arith), at 6 (omega arith), at 7 (omega arith), zero_more, five, six, seven)
    (omega arith) in
    ap (low_bits 64) both ∙ eight-bytes l i x y small low high

-- bits from number `at` on, read from eight bytes
pub bits_from : (l : List ℕ) (at r w : ℕ) → low_bits 64 r ≡ bits_of (take 8 (drop (at / 8) l)) → w % 2 ^ 56 ≡ r / 2 ^ (at % 8) % 2 ^ 56 →
    low_bits 56 w ≡ take 56 (drop at (bits_of l))
bits_from l at r w e same =
    let k : ℕ = at % 8 in
    let i : ℕ = at / 8 in
    let m : ℕ = 8 - k in
    let s : k + (56 + m) ≡ 64 = omega arith in
    let q : 8 * i + k ≡ at = omega arith in
    let bytes : bits_of (take 8 (drop i l)) ≡ take 64 (drop (8 * i) (bits_of l)) = sym (take-bits_of 8 (drop i l)) ∙ ap (take 64) (sym (drop-bits_of i l)) in
    sym (low_bits_mod 56 w) ∙ ap (low_bits 56) same ∙ low_bits_mod 56 (r / 2 ^ k) ∙ sym (take-low_bits 56 m (r / 2 ^ k))
    ∙ ap (take 56) (sym (drop-low_bits k (56 + m) r) ∙ ap (λ (j : ℕ). drop k (low_bits j r)) s ∙ ap (drop k) (e ∙ bytes))
    ∙ take-drop-take 56 k 64 (drop (8 * i) (bits_of l)) (omega arith)
    ∙ ap (take 56) (drop-drop k (8 * i) (bits_of l) ∙ ap (λ (j : ℕ). drop j (bits_of l)) q)
