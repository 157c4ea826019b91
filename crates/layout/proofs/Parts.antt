-- Laws of what the layouts share: bytes and numbers, arrays of four, circuits, and bytes that are read one by one.
use mathlib.Core.Path.{◌≡◌, refl, sym, ◌∙◌}
use Prim.Native.Nat.{ℕ, zero, suc, ◌+◌, ◌-◌, ◌*◌, ◌/◌, ◌%◌, ◌^◌, ◌≤◌, ◌<◌}
use native.Mathlib.Nat.{add-zero}
use native.Mathlib.Omega.{arith}
use mathlib.Core.List.{List, [], ◌∷◌, ◌++◌}
use lib.ListN.{length, get_or, take, drop}
use lib.Seq.{slice, slice-cons, take-length, take-append-le}
use Rattle.bits.specs.Bits.{Bytes}
use Rattle.bits.proofs.Bits.{get_or-Bytes}
use Rattle.packet.specs.Lists.{AllAre}
use Rattle.packet.specs.declared.Circuit.{Circuit}
use Rattle.packet.specs.declared.Circuits.{Circuits}
use Rattle.packet.specs.Circuits.{circuits_of, listed}
use Rattle.packet.proofs.CircuitLists.{circuits_of-take}
use Rattle.layout.specs.Layout.{low_bytes, byte_at, number_at, circuit_bytes, circuit_from, circuits_bytes, circuits_in}
use Rattle.layout.specs.Fits.{Four, CircuitFits, CircuitsFit}

-- ---- bytes and numbers of several bytes

pub byte_fits : (bytes : List ℕ) → Bytes bytes → (at : ℕ) → byte_at bytes at < 256
unfolding byte_at
byte_fits bytes are at = get_or-Bytes bytes are at

pub number_fits : (k : ℕ) (bytes : List ℕ) → Bytes bytes → (at : ℕ) → number_at k bytes at < 256 ^ k
unfolding number_at
number_fits zero bytes are at = omega arith
number_fits (suc k) bytes are at = omega (arith, byte_fits bytes are at, number_fits k bytes are (suc at))

-- a byte more before the others
number_behind : (k b : ℕ) (bytes : List ℕ) (at : ℕ) → number_at k (b ∷ bytes) (suc at) ≡ number_at k bytes at
unfolding number_at byte_at
number_behind zero b bytes at = refl
number_behind (suc k) b bytes at = rw (number_behind k b bytes (suc at))

-- bytes more before the others
pub number_after : (k : ℕ) (a b : List ℕ) (n : ℕ) → length a ≡ n → number_at k (a ++ b) n ≡ number_at k b 0
number_after k a b n e = rw (← e) (go a)
  where
    go : (a : List ℕ) → number_at k (a ++ b) (length a) ≡ number_at k b 0
    go [] = refl
    go (x ∷ a) = number_behind k x (a ++ b) (length a) ∙ go a

pub length-low_bytes : (k n : ℕ) → length (low_bytes k n) ≡ k
unfolding low_bytes
length-low_bytes zero n = refl
length-low_bytes (suc k) n = rw (length-low_bytes k (n / 256))

-- the bytes of a number that has room in them, read again
pub number_unpacks : (k n : ℕ) → n < 256 ^ k → (rest : List ℕ) → number_at k (low_bytes k n ++ rest) 0 ≡ n
unfolding number_at low_bytes byte_at
number_unpacks zero n h rest = omega arith
number_unpacks (suc k) n h rest =
    let high : n / 256 < 256 ^ k = omega arith in
    rw (number_behind k (n % 256) (low_bytes k (n / 256) ++ rest) 0, number_unpacks k (n / 256) high rest) (omega arith)

-- ---- arrays of four

-- what holds of any four elements that fit holds of the array
pub four_elements : {A : Type 0} {Fits : A → Type 0} (Holds : List A → Type 0)
    → ((a b c d : A) → Fits a → Fits b → Fits c → Fits d → Holds (a ∷ b ∷ c ∷ d ∷ [])) → (l : List A) → Four Fits l → Holds l
unfolding AllAre
four_elements Holds of [] f = absurd (omega arith)
four_elements Holds of (a ∷ []) f = absurd (omega arith)
four_elements Holds of (a ∷ b ∷ []) f = absurd (omega arith)
four_elements Holds of (a ∷ b ∷ c ∷ []) f = absurd (omega arith)
four_elements Holds of (a ∷ b ∷ c ∷ d ∷ []) f = of a b c d f.each.0 f.each.1.0 f.each.1.1.0 f.each.1.1.1.0
four_elements Holds of (a ∷ b ∷ c ∷ d ∷ e ∷ l) f = absurd (omega arith)

-- an array of four is its elements
pub four_places : {A : Type 0} (l : List A) (d : A) → length l ≡ 4 → l ≡ get_or l 0 d ∷ get_or l 1 d ∷ get_or l 2 d ∷ get_or l 3 d ∷ []
four_places (a ∷ b ∷ c ∷ d ∷ []) e h = refl
four_places [] e h = absurd (omega arith)
four_places (a ∷ []) e h = absurd (omega arith)
four_places (a ∷ b ∷ []) e h = absurd (omega arith)
four_places (a ∷ b ∷ c ∷ []) e h = absurd (omega arith)
four_places (a ∷ b ∷ c ∷ d ∷ f ∷ l) e h = absurd (omega arith)

-- ---- circuits

pub circuits_unpack : (cs : Circuits) → CircuitsFit cs → (rest : List ℕ) → circuits_in (circuits_bytes cs ++ rest) ≡ cs
unfolding circuits_in circuits_bytes circuit_from circuit_bytes byte_at
circuits_unpack cs fits rest = four_elements Unpack (λ a b c d _ _ _ _. refl) cs.list fits.list
  where
    Unpack : List Circuit → Type 0
    Unpack l = circuits_in (circuits_bytes (record { count = cs.count; list = l }) ++ rest) ≡ record { count = cs.count; list = l }

pub circuits_fit : (bytes : List ℕ) → Bytes bytes → CircuitsFit (circuits_in bytes)
unfolding circuits_in circuit_from AllAre
circuits_fit bytes are =
    record {
      count = byte_fits bytes are 0;
      list = record { four = refl; each = (circuit 1, (circuit 4, (circuit 7, (circuit 10, tt)))) };
    }
  where
    circuit : (at : ℕ) → CircuitFits (circuit_from bytes at)
    circuit at =
        record { address = byte_fits bytes are at; extended = byte_fits bytes are (at + 1); extension = byte_fits bytes are (at + 2) }

-- ---- bytes that are read one by one

-- n bytes from `at` on, and others behind them
abbrev pub read_on : ℕ → List ℕ → ℕ → List ℕ → List ℕ
read_on zero bytes at behind = behind
read_on (suc n) bytes at behind = byte_at bytes at ∷ read_on n bytes (suc at) behind

-- the bytes of the number that bytes make
low_byte : (a n : ℕ) → a < 256 → (a + 256 * n) % 256 ≡ a
low_byte a n h = omega arith

high_bytes : (a n : ℕ) → a < 256 → (a + 256 * n) / 256 ≡ n
high_bytes a n h = omega arith

pub number_packs : (k : ℕ) (bytes : List ℕ) → Bytes bytes → (at : ℕ) → low_bytes k (number_at k bytes at) ≡ read_on k bytes at []
unfolding low_bytes number_at
number_packs zero bytes are at = refl
number_packs (suc k) bytes are at =
    let a = byte_at bytes at in
    let n = number_at k bytes (suc at) in
    rw (low_byte a n (byte_fits bytes are at), high_bytes a n (byte_fits bytes are at), number_packs k bytes are (suc at))

-- they and those from behind them up to `to` are the bytes from `at` up to `to`
pub read_slice : (n : ℕ) (bytes : List ℕ) (at to : ℕ) → at + n ≤ to → to ≤ length bytes
    → read_on n bytes at (slice (at + n) to bytes) ≡ slice at to bytes
unfolding byte_at
read_slice zero bytes at to h k = rw add-zero
read_slice (suc n) bytes at to h k =
    let rest : read_on n bytes (suc at) (slice (suc at + n) to bytes) ≡ slice (suc at) to bytes = read_slice n bytes (suc at) to (omega arith) k in
    let step : at + suc n ≡ suc at + n = omega arith in
    rw (step, rest) (sym (slice-cons at to bytes 0 (omega arith) k))

-- the circuits that a record begins with, at most four, are those of the bytes behind their number
pub circuits_behind : (bytes : List ℕ) → 13 ≤ length bytes → (circuits_in bytes).count ≤ 4
    → circuits_of (take (1 + 3 * (circuits_in bytes).count - 1) (drop 1 bytes)) ≡ listed (circuits_in bytes)
unfolding circuits_in circuit_from circuits_of listed
circuits_behind bytes long few =
    let twelve : read_on 12 bytes 1 (drop 13 bytes) ≡ drop 1 bytes = rw take-length at (read_slice 12 bytes 1 (length bytes) long (omega arith)) in
    let cs = circuits_in bytes in
    let size : 1 + 3 * cs.count - 1 ≡ 3 * cs.count = omega arith in
    rw (size, circuits_of-take cs.count (drop 1 bytes), ← twelve) (take-append-le cs.count cs.list (circuits_of (drop 13 bytes)) few)
