-- A bit writer's steps: what its byte holds before its next bit, bits put behind the held ones, a byte that is full stored, and the held ones written.
use mathlib.Core.Path.{◌≡◌, sym, ap, ◌∙◌}
use Prim.Native.Nat.{ℕ, suc, ◌+◌, ◌-◌, ◌*◌, ◌/◌, ◌%◌, ◌^◌, ◌≤◌, ◌<◌}
use native.Mathlib.Nat.{mod-lt}
use native.Mathlib.Omega.{arith}
use mathlib.Core.Bool.{Bool}
use mathlib.Core.List.{List, ◌∷◌, ◌++◌, append_assoc}
use lib.ListN.{length, take, drop, get_or, set, length-append, length-set}
use lib.Seq.{sets, drop_at, split_at, set_split, set-get_or, length-take-le}
use lib.Pow.{split, pow_pos, pow_mono, shr_lt, shl_lt}
use Rattle.bits.specs.Bits.{low_bits, byte_bits, bits_of}
use Rattle.bits.specs.Writer.{PartHeld, next_bit, with_held}
use Rattle.bits.specs.declared.writer.BitWriter.{BitWriter}
use Rattle.bits.proofs.Bits.{length-low_bits, length-byte_bits, length-bits_of, bits_of_append, bits_of-set}
use Rattle.bits.proofs.Lists.{sets_append, sets_behind}
use Rattle.bits.proofs.Fields.{low_bits_split, split_lt, low_bits_byte}

-- a stretch written over one of its length
written : (x y z v : List Bool) (i : ℕ) → length x ≡ i → length y ≡ length v → sets (x ++ (y ++ z)) i v ≡ x ++ (v ++ z)
written x y z v i e f =
    let room : length v ≤ length (y ++ z) = rw length-append (omega arith) in
    rw (← e) (sets_behind x (y ++ z) v room ∙ rw (drop_at y z (length v) f))

module _ (s : List ℕ) (i : ℕ) (inside : i < length s) where
  -- the bits before byte i, of it and behind it
  around : bits_of s ≡ bits_of (take i s) ++ (byte_bits (get_or s i 0) ++ bits_of (drop (suc i) s))
  unfolding bits_of
  around = ap bits_of (split_at s i 0 inside) ∙ bits_of_append (take i s) (get_or s i 0 ∷ drop (suc i) s)

  around_set : (b : ℕ) → bits_of (set s i b) ≡ bits_of (take i s) ++ (byte_bits b ++ bits_of (drop (suc i) s))
  unfolding bits_of
  around_set b = ap bits_of (set_split s i b inside) ∙ bits_of_append (take i s) (b ∷ drop (suc i) s)

  before : length (bits_of (take i s)) ≡ 8 * i
  before = rw (length-bits_of, length-take-le i s (omega arith))

  -- a byte stored is its bits written
  stored : (b : ℕ) → bits_of (set s i b) ≡ sets (bits_of s) (8 * i) (byte_bits b)
  stored b = bits_of-set s i b inside

  -- a number's lowest byte stored, and its bits above that held
  pub stored_held : (m x : ℕ) → sets (bits_of (set s i (x % 256))) (8 * (i + 1)) (low_bits m (x / 256)) ≡ sets (bits_of s) (8 * i) (low_bits (8 + m) x)
  stored_held m x =
      let e : 8 * (i + 1) ≡ 8 * i + length (byte_bits (x % 256)) = omega (arith, length-byte_bits (x % 256)) in
      rw (e, stored (x % 256), low_bits_byte m x) (sym (sets_append (bits_of s) (8 * i) (byte_bits (x % 256)) (low_bits m (x / 256))))

  -- k of the byte's lowest bits, below 8, and those above them
  module _ (k : ℕ) (few : k < 8) where
    parts : (v : ℕ) → v < 2 ^ k → byte_bits (v + get_or s i 0 / 2 ^ k * 2 ^ k) ≡ low_bits k v ++ low_bits (8 - k) (get_or s i 0 / 2 ^ k)
    unfolding byte_bits
    parts v fits =
        let e : 8 ≡ k + (8 - k) = omega arith in
        ap (λ (n : ℕ). low_bits n (v + get_or s i 0 / 2 ^ k * 2 ^ k)) e ∙ low_bits_split k (8 - k) v (get_or s i 0 / 2 ^ k) fits

    whole : get_or s i 0 % 2 ^ k + get_or s i 0 / 2 ^ k * 2 ^ k ≡ get_or s i 0
    whole = omega (arith, split (get_or s i 0) k)

    -- the byte with others in their place is those written
    over : (v : ℕ) → v < 2 ^ k → bits_of (set s i (v + get_or s i 0 / 2 ^ k * 2 ^ k)) ≡ sets (bits_of s) (8 * i) (low_bits k v)
    over v fits =
        let a : ℕ = get_or s i 0 in
        let x : List Bool = bits_of (take i s) in
        let low : List Bool = low_bits k (a % 2 ^ k) in
        let high : List Bool = low_bits (8 - k) (a / 2 ^ k) in
        let z : List Bool = bits_of (drop (suc i) s) in
        let old : byte_bits a ≡ low ++ high = ap byte_bits (sym whole) ∙ parts (a % 2 ^ k) (mod-lt a (pow_pos k)) in
        let all : bits_of s ≡ x ++ (low ++ (high ++ z)) = around ∙ rw (old, append_assoc) in
        let new : bits_of (set s i (v + a / 2 ^ k * 2 ^ k)) ≡ x ++ (low_bits k v ++ (high ++ z)) =
        around_set (v + a / 2 ^ k * 2 ^ k) ∙ rw (parts v fits, append_assoc) in
        new
        ∙ sym
        (ap (λ (r : List Bool). sets r (8 * i) (low_bits k v)) all
        ∙ written x low (high ++ z) (low_bits k v) (8 * i) before (length-low_bits k (a % 2 ^ k) ∙ sym (length-low_bits k v)))

    -- the byte's own, written, change nothing
    pub own_held : sets (bits_of s) (8 * i) (low_bits k (get_or s i 0 % 2 ^ k)) ≡ bits_of s
    own_held =
        sym (over (get_or s i 0 % 2 ^ k) (mod-lt (get_or s i 0) (pow_pos k))) ∙ ap (λ (b : ℕ). bits_of (set s i b)) whole ∙ ap bits_of (set-get_or s i 0)

    -- and the held ones, written
    pub held_stored : (v : ℕ) → v < 2 ^ k → bits_of (set s i (get_or s i 0 - get_or s i 0 % 2 ^ k + v)) ≡ sets (bits_of s) (8 * i) (low_bits k v)
    held_stored v fits =
        let e : get_or s i 0 - get_or s i 0 % 2 ^ k + v ≡ v + get_or s i 0 / 2 ^ k * 2 ^ k = omega (arith, split (get_or s i 0) k) in
        rw e (over v fits)

    pub held_byte : (v : ℕ) → v < 2 ^ k → get_or s i 0 < 256 → get_or s i 0 - get_or s i 0 % 2 ^ k + v < 256
    held_byte v fits byte =
        let e : get_or s i 0 - get_or s i 0 % 2 ^ k + v ≡ v + get_or s i 0 / 2 ^ k * 2 ^ k = omega (arith, split (get_or s i 0) k) in
        let w : 8 - k + k ≡ 8 = omega arith in
        let w' : k + (8 - k) ≡ 8 = omega arith in
        let q : get_or s i 0 / 2 ^ k < 2 ^ (8 - k) = shr_lt (8 - k) k (rw w byte) in
        let l : v + get_or s i 0 / 2 ^ k * 2 ^ k < 2 ^ (k + (8 - k)) = split_lt k (8 - k) v (get_or s i 0 / 2 ^ k) fits q in
        rw e (rw w' at l)

-- n bits, at most 16, put behind the held ones
module _ (w : BitWriter) (held : PartHeld w) (n value : ℕ) (few : n ≤ 16) (fits : value < 2 ^ n) where
  -- all of them as a number
  abbrev all : ℕ
  all = w.bits + value * 2 ^ w.count

  pub all_lt : all < 2 ^ (w.count + n)
  all_lt = split_lt w.count n w.bits value held.only fits

  pub shifted_lt : value * 2 ^ w.count < 2 ^ 32
  shifted_lt =
      let l : value * 2 ^ w.count < 2 ^ (n + w.count) = shl_lt n w.count fits in
      let m : 2 ^ (n + w.count) ≤ 2 ^ 32 = pow_mono {i = n + w.count} {j = 32} (omega (arith, held.few)) in
      omega arith

  pub all_small : all < 2 ^ 32
  all_small =
      let m : 2 ^ (w.count + n) ≤ 2 ^ 32 = pow_mono {i = w.count + n} {j = 32} (omega (arith, held.few)) in
      omega (arith, all_lt)

  together : (s : List ℕ) → sets (bits_of s) (8 * w.byte) (low_bits (w.count + n) all) ≡ sets (with_held s w) (next_bit w) (low_bits n value)
  unfolding with_held
  together s =
      rw (low_bits_split w.count n w.bits value held.only)
      (sets_append (bits_of s) (8 * w.byte) (low_bits w.count w.bits) (low_bits n value) ∙ rw length-low_bits)

  -- one byte is full
  pub one_full : (s : List ℕ) → w.byte < length s → 8 ≤ n → w.count + n - 8 < 8 →
      let r : BitWriter = record { byte = w.byte + 1; count = w.count + n - 8; bits = all / 256 } in
      PartHeld r × (next_bit r ≡ next_bit w + n) × (with_held (set s w.byte (all % 256)) r ≡ sets (with_held s w) (next_bit w) (low_bits n value))
  unfolding with_held
  one_full s inside least less =
      let e : w.count + n - 8 + 8 ≡ w.count + n = omega arith in
      let f : 8 + (w.count + n - 8) ≡ w.count + n = omega arith in (
        record { few = less; only = shr_lt (w.count + n - 8) 8 (rw e all_lt) },
        omega arith,
        stored_held s w.byte inside (w.count + n - 8) all ∙ rw f (together s),
      )

  -- two are
  pub two_full : (s : List ℕ) → w.byte + 1 < length s → 8 ≤ w.count + n - 8 →
      let r : BitWriter = record { byte = w.byte + 2; count = w.count + n - 8 - 8; bits = all / 65536 } in
      PartHeld r × (next_bit r ≡ next_bit w + n)
      × (with_held (set (set s w.byte (all % 256)) (w.byte + 1) (all / 256 % 256)) r ≡ sets (with_held s w) (next_bit w) (low_bits n value))
  unfolding with_held
  two_full s inside more =
      let m : ℕ = w.count + n - 8 - 8 in
      let e : m + 16 ≡ w.count + n = omega arith in
      let f : 8 + (8 + m) ≡ w.count + n = omega arith in
      let next : w.byte + 2 ≡ w.byte + 1 + 1 = omega arith in
      let twice : all / 65536 ≡ all / 256 / 256 = omega arith in
      let first : List ℕ = set s w.byte (all % 256) in
      let fits_first : w.byte + 1 < length first = rw length-set inside in (
        record { few = omega (arith, held.few); only = shr_lt m 16 (rw e all_lt) },
        omega arith,
        rw (next, twice) (stored_held first (w.byte + 1) fits_first m (all / 256) ∙ stored_held s w.byte (omega arith) (8 + m) all ∙ rw f (together s)),
      )
