-- Laws of the bits of bytes: lengths, parts, and that bytes and their bits determine each other.
use mathlib.Core.Path.{◌≡◌, refl, sym, ap, ◌∙◌}
use Prim.Native.Nat.{ℕ, zero, suc, ◌+◌, ◌-◌, ◌*◌, ◌/◌, ◌%◌, ◌^◌, ◌≤◌, ◌<◌}
use native.Mathlib.Nat.{add_assoc, sub-zero, pow-suc, suc-sub-suc}
use native.Mathlib.Omega.{arith}
use mathlib.Core.Bool.{Bool, true, false}
use mathlib.Core.List.{List, [], ◌∷◌, ◌++◌, append_assoc, append-nil}
use lib.ListN.{length, take, drop, get_or, set, replicate, length-append, length-drop, length-set, length-replicate, replicate-append-replicate}
use lib.Seq.{sets, take-nil, drop-nil, take-append-add, drop-append-add, take_at, drop_at}
use lib.Dec.{eqb}
use lib.Pow.{pow_pos}
use borrow.Author.Tests.{eq-eqb, ne_eqb, eqb-true, eqb-false}
use Rattle.bits.specs.Bits.{odd, low_bits, byte_bits, bits_of, bit_value, number_of, fill_bytes, bytes_of, Bytes}
use Rattle.bits.proofs.Lists.{sets_append, sets_runs, sets_front, sets_append_add, drop_append_replicate, fill-take-drop}

-- lengths
pub length-low_bits : (k n : ℕ) → length (low_bits k n) ≡ k
unfolding low_bits
length-low_bits zero n = refl
length-low_bits (suc k) n = ap suc (length-low_bits k (n / 2))

pub length-byte_bits : (b : ℕ) → length (byte_bits b) ≡ 8
unfolding byte_bits low_bits
length-byte_bits b = refl

pub length-bits_of : (bs : List ℕ) → length (bits_of bs) ≡ 8 * length bs
unfolding bits_of
length-bits_of [] = refl
length-bits_of (b ∷ bs) = rw (length-append, length-byte_bits) (omega (arith, length-bits_of bs))

pub length-fill_bytes : (n : ℕ) (bs : List Bool) → length (fill_bytes n bs) ≡ n
unfolding fill_bytes
length-fill_bytes zero bs = refl
length-fill_bytes (suc n) bs = ap suc (length-fill_bytes n (drop 8 bs))

-- the bits of joined bytes
pub bits_of_append : (a b : List ℕ) → bits_of (a ++ b) ≡ bits_of a ++ bits_of b
unfolding bits_of
bits_of_append [] b = refl
bits_of_append (x ∷ a) b = rw append_assoc (ap (λ (r : List Bool). byte_bits x ++ r) (bits_of_append a b))

-- one byte more is eight bits more
pub eight_suc : (x n : ℕ) → 8 * suc n ≡ length (byte_bits x) + 8 * n
eight_suc x n = rw length-byte_bits (omega arith)

-- the bits of parts
pub take-bits_of : (n : ℕ) (bs : List ℕ) → take (8 * n) (bits_of bs) ≡ bits_of (take n bs)
unfolding bits_of
take-bits_of zero bs = refl
take-bits_of (suc n) [] = take-nil (8 * suc n)
take-bits_of (suc n) (x ∷ bs) =
    rw (eight_suc x n) (take-append-add (byte_bits x) (bits_of bs) (8 * n) ∙ ap (λ (r : List Bool). byte_bits x ++ r) (take-bits_of n bs))

pub drop-bits_of : (n : ℕ) (bs : List ℕ) → drop (8 * n) (bits_of bs) ≡ bits_of (drop n bs)
unfolding bits_of
drop-bits_of zero bs = refl
drop-bits_of (suc n) [] = drop-nil (8 * suc n)
drop-bits_of (suc n) (x ∷ bs) = rw (eight_suc x n) (drop-append-add (byte_bits x) (bits_of bs) (8 * n) ∙ drop-bits_of n bs)

-- a byte stored is its bits written, and so are bytes
pub bits_of-set : (s : List ℕ) (i b : ℕ) → i < length s → bits_of (set s i b) ≡ sets (bits_of s) (8 * i) (byte_bits b)
unfolding bits_of
bits_of-set [] i b h = absurd (omega arith)
bits_of-set (x ∷ s) zero b h =
    let fits : length (byte_bits b) ≤ length (byte_bits x ++ bits_of s) = rw (length-append, length-byte_bits b, length-byte_bits x) (omega arith) in
    let same : length (byte_bits x) ≡ length (byte_bits b) = length-byte_bits x ∙ sym (length-byte_bits b) in
    sym (sets_front (byte_bits x ++ bits_of s) (byte_bits b) fits ∙ rw (drop_at (byte_bits x) (bits_of s) (length (byte_bits b)) same))
bits_of-set (x ∷ s) (suc i) b h =
    rw (eight_suc x i, sets_append_add) (ap (λ (r : List Bool). byte_bits x ++ r) (bits_of-set s i b (omega arith)))

bits_of_sets : (bs s : List ℕ) (i : ℕ) → i + length bs ≤ length s → bits_of (sets s i bs) ≡ sets (bits_of s) (8 * i) (bits_of bs)
unfolding bits_of
bits_of_sets [] s i h = refl
bits_of_sets (b ∷ bs) s i h =
    let fits : suc i + length bs ≤ length (set s i b) = rw length-set (omega arith) in
    let next : 8 * suc i ≡ 8 * i + length (byte_bits b) = omega (arith, length-byte_bits b) in
    bits_of_sets bs (set s i b) (suc i) fits
    ∙ rw (bits_of-set s i b (omega arith), next) (sym (sets_append (bits_of s) (8 * i) (byte_bits b) (bits_of bs)))

-- bytes of one bit
bits_of-replicate : (k b : ℕ) (x : Bool) → byte_bits b ≡ replicate 8 x → bits_of (replicate k b) ≡ replicate (8 * k) x
unfolding bits_of
bits_of-replicate zero b x e = refl
bits_of-replicate (suc k) b x e =
    let n : 8 * suc k ≡ 8 + 8 * k = omega arith in
    rw (e, bits_of-replicate k b x e, n) (replicate-append-replicate 8 (8 * k) x)

-- a run in three parts: bits up to a byte's first one, bytes, and bits
pub bits_of-run : (s before after : List ℕ) {bytes : List ℕ} (at i k n b : ℕ) (x : Bool) → (at + i) % 8 ≡ 0 → (at + i) / 8 + k ≤ length before
    → byte_bits b ≡ replicate 8 x → bits_of before ≡ sets (bits_of s) at (replicate i x) → bytes ≡ sets before ((at + i) / 8) (replicate k b)
    → bits_of after ≡ sets (bits_of bytes) (at + i + 8 * k) (replicate n x) → bits_of after ≡ sets (bits_of s) at (replicate (i + 8 * k + n) x)
bits_of-run s before after at i k n b x edge room e f g h =
    let fits : (at + i) / 8 + length (replicate k b) ≤ length before = rw length-replicate room in
    let first : 8 * ((at + i) / 8) ≡ at + i = omega arith in
    h ∙ rw (g, bits_of_sets (replicate k b) before ((at + i) / 8) fits, first, bits_of-replicate k b x e, f, sets_runs, sets_runs, add_assoc)

-- a number's lowest bit and its half determine it
pub bit_value-odd : (n : ℕ) → bit_value (odd n) ≡ n % 2
unfolding odd bit_value
bit_value-odd n = go (eqb (n % 2) 1) refl
  where
    go : (t : Bool) → eqb (n % 2) 1 ≡ t → bit_value t ≡ n % 2
    go true e = sym (eqb-true (n % 2) 1 e)
    go false e =
        let h : n % 2 ≡ 1 → ⊥ = eqb-false (n % 2) 1 e in
        omega arith

pub odd_double : (b : Bool) (m : ℕ) → odd (bit_value b + 2 * m) ≡ b
unfolding odd bit_value
odd_double true m = eq-eqb ((1 + 2 * m) % 2) 1 (omega arith)
odd_double false m = ne_eqb ((0 + 2 * m) % 2) 1 (omega arith)

pub half_double : (b : Bool) (m : ℕ) → (bit_value b + 2 * m) / 2 ≡ m
unfolding bit_value
half_double true m = omega arith
half_double false m = omega arith

-- a number's k lowest bits, and the number that k bits make
pub low_bits-zero : (k : ℕ) → low_bits k 0 ≡ replicate k false
unfolding odd low_bits
low_bits-zero zero = refl
low_bits-zero (suc k) = ap (λ (r : List Bool). false ∷ r) (low_bits-zero k)

pub low_bits-number_of : (k : ℕ) (bs : List Bool) → low_bits k (number_of (take k bs)) ≡ take k bs ++ replicate (k - length (take k bs)) false
unfolding low_bits number_of
low_bits-number_of zero bs = refl
low_bits-number_of (suc k) [] = rw sub-zero (low_bits-zero (suc k))
low_bits-number_of (suc k) (b ∷ bs) = simp (odd_double, half_double, suc-sub-suc) (ap (λ (r : List Bool). b ∷ r) (low_bits-number_of k bs))

pub number_of-low_bits : (k n : ℕ) → n < 2 ^ k → number_of (low_bits k n) ≡ n
unfolding low_bits number_of
number_of-low_bits zero n h = omega arith
number_of-low_bits (suc k) n h =
    let h' : n < 2 ^ k * 2 = rw pow-suc at h in
    let half : n / 2 < 2 ^ k = omega arith in
    rw (number_of-low_bits k (n / 2) half, bit_value-odd) (omega arith)

-- a number of k bits
pub bit_value_lt : (b : Bool) → bit_value b < 2
unfolding bit_value
bit_value_lt true = omega arith
bit_value_lt false = omega arith

pub number_of_lt : (k : ℕ) (bs : List Bool) → number_of (take k bs) < 2 ^ k
unfolding number_of
number_of_lt zero bs = omega arith
number_of_lt (suc k) [] = pow_pos (suc k)
number_of_lt (suc k) (b ∷ bs) = rw pow-suc (omega (arith, bit_value_lt b, number_of_lt k bs))

-- a byte and its eight bits
byte_bits-number_of : (bs : List Bool) → byte_bits (number_of (take 8 bs)) ≡ take 8 bs ++ replicate (8 - length (take 8 bs)) false
unfolding byte_bits
byte_bits-number_of bs = low_bits-number_of 8 bs

number_of-byte_bits : (b : ℕ) → b < 256 → number_of (byte_bits b) ≡ b
unfolding byte_bits
number_of-byte_bits b h = number_of-low_bits 8 b h

-- each byte that bits fill is a byte, and its bits are those, then zeros
pub Bytes-fill_bytes : (n : ℕ) (bs : List Bool) → Bytes (fill_bytes n bs)
unfolding Bytes fill_bytes
Bytes-fill_bytes zero bs = tt
Bytes-fill_bytes (suc n) bs = (number_of_lt 8 bs, Bytes-fill_bytes n (drop 8 bs))

pub bits_of-fill_bytes : (n : ℕ) (bs : List Bool) → length bs ≤ 8 * n → bits_of (fill_bytes n bs) ≡ bs ++ replicate (8 * n - length bs) false
unfolding bits_of fill_bytes
bits_of-fill_bytes zero [] h = refl
bits_of-fill_bytes zero (b ∷ bs) h = absurd (omega arith)
bits_of-fill_bytes (suc n) bs h =
    let rest : length (drop 8 bs) ≤ 8 * n = rw length-drop (omega arith) in
    let e : 8 * suc n ≡ 8 + 8 * n = omega arith in
    rw (byte_bits-number_of bs, bits_of-fill_bytes n (drop 8 bs) rest, e) (fill-take-drop 8 (8 * n) bs false)

-- a run of zeros behind the bits changes no byte
number_of_zeros : (m k : ℕ) → number_of (take m (replicate k false)) ≡ 0
unfolding number_of bit_value
number_of_zeros zero k = refl
number_of_zeros (suc m) zero = refl
number_of_zeros (suc m) (suc k) = rw (number_of_zeros m k)

number_of_append_zeros : (m k : ℕ) (bs : List Bool) → number_of (take m (bs ++ replicate k false)) ≡ number_of (take m bs)
unfolding number_of
number_of_append_zeros zero k bs = refl
number_of_append_zeros (suc m) k [] = number_of_zeros (suc m) k
number_of_append_zeros (suc m) k (b ∷ bs) = rw (number_of_append_zeros m k bs)

pub fill_bytes_zeros : (n : ℕ) (bs : List Bool) (k : ℕ) → fill_bytes n (bs ++ replicate k false) ≡ fill_bytes n bs
unfolding fill_bytes
fill_bytes_zeros zero bs k = refl
fill_bytes_zeros (suc n) bs k =
    rw (number_of_append_zeros 8 k bs, drop_append_replicate 8 k bs false) (ap (λ (r : List ℕ). number_of (take 8 bs) ∷ r) (fill_bytes_zeros n (drop 8 bs) (k - (8 - length bs))))

-- the first m of the n bytes that bits fill are the m bytes that they fill
pub take-fill_bytes : (m n : ℕ) (bs : List Bool) → m ≤ n → take m (fill_bytes n bs) ≡ fill_bytes m bs
unfolding fill_bytes
take-fill_bytes zero n bs h = refl
take-fill_bytes (suc m) zero bs h = absurd (omega arith)
take-fill_bytes (suc m) (suc n) bs h = ap (λ (r : List ℕ). number_of (take 8 bs) ∷ r) (take-fill_bytes m n (drop 8 bs) (omega arith))

-- bytes are what their bits fill
pub fill_bytes-bits_of : (bs : List ℕ) → Bytes bs → fill_bytes (length bs) (bits_of bs) ≡ bs
unfolding fill_bytes bits_of Bytes
fill_bytes-bits_of [] h = refl
fill_bytes-bits_of (b ∷ bs) h =
    rw (take_at (byte_bits b) (bits_of bs) 8 (length-byte_bits b), drop_at (byte_bits b) (bits_of bs) 8 (length-byte_bits b), number_of-byte_bits b h.0)
    (ap (λ (r : List ℕ). b ∷ r) (fill_bytes-bits_of bs h.1))

pub bytes_of-bits_of : (bs : List ℕ) → Bytes bs → bytes_of (bits_of bs) ≡ bs
unfolding bytes_of
bytes_of-bits_of bs h =
    let n : (length (bits_of bs) + 7) / 8 ≡ length bs = omega (arith, length-bits_of bs) in
    rw n (fill_bytes-bits_of bs h)

-- whole bytes of bits are the bits of what they fill
pub bits_of-bytes_of : (bs : List Bool) → length bs % 8 ≡ 0 → bits_of (bytes_of bs) ≡ bs
unfolding bytes_of
bits_of-bytes_of bs h =
    let fits : length bs ≤ 8 * ((length bs + 7) / 8) = omega arith in
    let none : 8 * ((length bs + 7) / 8) - length bs ≡ 0 = omega arith in
    bits_of-fill_bytes ((length bs + 7) / 8) bs fits ∙ rw (none, append-nil)

-- bytes with the same bits are the same bytes
pub bits_of_injective : (a b : List ℕ) → Bytes a → Bytes b → bits_of a ≡ bits_of b → a ≡ b
bits_of_injective a b ha hb e =
    sym (bytes_of-bits_of a ha) ∙ ap bytes_of e ∙ bytes_of-bits_of b hb

-- joined bytes and parts of bytes are bytes
pub Bytes_append : (a b : List ℕ) → Bytes a → Bytes b → Bytes (a ++ b)
unfolding Bytes
Bytes_append [] b ha hb = hb
Bytes_append (x ∷ a) b ha hb = (ha.0, Bytes_append a b ha.1 hb)

pub Bytes-take : (n : ℕ) (bs : List ℕ) → Bytes bs → Bytes (take n bs)
unfolding Bytes
Bytes-take zero bs h = tt
Bytes-take (suc n) [] h = tt
Bytes-take (suc n) (b ∷ bs) h = (h.0, Bytes-take n bs h.1)

pub Bytes-drop : (n : ℕ) (bs : List ℕ) → Bytes bs → Bytes (drop n bs)
unfolding Bytes
Bytes-drop zero bs h = h
Bytes-drop (suc n) [] h = tt
Bytes-drop (suc n) (b ∷ bs) h = Bytes-drop n bs h.1

-- bytes are known by each element
pub Bytes_each : (bs : List ℕ) → ((i : ℕ) → get_or bs i 0 < 256) → Bytes bs
unfolding Bytes
Bytes_each [] h = tt
Bytes_each (b ∷ bs) h = (h zero, Bytes_each bs (λ i. h (suc i)))

pub get_or-Bytes : (bs : List ℕ) → Bytes bs → (i : ℕ) → get_or bs i 0 < 256
unfolding Bytes
get_or-Bytes [] h i = omega arith
get_or-Bytes (b ∷ bs) h zero = h.0
get_or-Bytes (b ∷ bs) h (suc i) = get_or-Bytes bs h.1 i
