-- The laws of messages: the header's length, the number of packets, and the segments, which joined are header and message, and of which
-- each is a part of the message, segment 0 with the header before it.
use Prim.Native.Nat.{ℕ, zero, suc, ◌+◌, ◌-◌, ◌*◌, ◌/◌, ◌%◌, ◌≤◌, ◌<◌, min}
use native.Mathlib.Nat.{mul-suc}
use native.Mathlib.Omega.{arith}
use mathlib.Core.Bool.{Bool, true, false, cond}
use mathlib.Core.List.{List, [], ◌∷◌, ◌++◌}
use mathlib.Core.Path.{◌≡◌, refl, sym, ap, ◌∙◌}
use borrow.Author.Tests.{le-leb, lt-leb, leb-true, leb-false}
use lib.Dec.{leb, eqb, eqb-suc-zero}
use lib.ListN.{length, take, drop, length-append, length-take, length-drop}
use lib.Seq.{take_all, take-add, take-append-add, drop-append-add}
use Rattle.bits.specs.Bits.{Bytes}
use Rattle.bits.proofs.Bits.{Bytes_append, Bytes-take, Bytes-drop}
use Rattle.packet.specs.Messages.{longest, longest_long, long_header, header, headed, segment, segments_up_to, part_from, part_of, packets, link_of, LongByValue}
use Rattle.packet.proofs.Lists.{take_min}

-- the header of a short message and of a long one
pub header_short : (n : ℕ) → n ≤ 15 → header n ≡ n ∷ []
unfolding header
header_short n h = rw (le-leb n 15 h)

pub header_long : (n : ℕ) → 15 < n → header n ≡ (16 + min n long_header / 256) ∷ (min n long_header % 256) ∷ []
unfolding header
header_long n h = rw (lt-leb n 15 h)

-- a header has one byte or two, and these are bytes
header_either : (P : List ℕ → Type 0) (n : ℕ) → (n ≤ 15 → P (n ∷ [])) → (15 < n → P ((16 + min n long_header / 256) ∷ (min n long_header % 256) ∷ [])) → P (header n)
header_either P n short long = go (leb n 15) refl
  where
    go : (t : Bool) → leb n 15 ≡ t → P (header n)
    go true e = rw (header_short n (leb-true n 15 e)) (short (leb-true n 15 e))
    go false e = rw (header_long n (leb-false n 15 e)) (long (leb-false n 15 e))

pub length-header : (n : ℕ) → (1 ≤ length (header n)) × (length (header n) ≤ 2)
length-header n = header_either (λ l. (1 ≤ length l) × (length l ≤ 2)) n (λ h. omega arith) (λ h. omega arith)

header-Bytes : (n : ℕ) → Bytes (header n)
unfolding Bytes
header-Bytes n = header_either Bytes n (λ s. (omega arith, tt)) (λ l. (omega arith, (omega arith, tt)))

-- the number of packets
pub packets-most : (n : ℕ) → n ≤ longest_long → packets n ≤ 4097
unfolding packets longest_long
packets-most n h = omega (arith, length-header n)

header-long : (n : ℕ) → longest < n → header n ≡ 0x1f ∷ 0xff ∷ []
unfolding longest
header-long n h =
    let e : min n long_header ≡ long_header = omega arith in
    header_long n (omega arith) ∙ ap (λ (k : ℕ). (16 + k / 256) ∷ (k % 256) ∷ []) e

pub long_by_value : LongByValue
unfolding packets header longest_long
long_by_value =
    record {
      header = header-long;
      shortest = refl;
      last_full = refl;
      last_one = refl;
      almost = refl;
      most = refl;
    }

-- a segment of a packet has 1 to 16 bytes
length-headed : (m : List ℕ) → length (headed m) ≡ length (header (length m)) + length m
unfolding headed
length-headed m = length-append (header (length m)) m

pub length-segment : (m : List ℕ) (k : ℕ) → k < packets (length m) → (1 ≤ length (segment m k)) × (length (segment m k) ≤ 16)
unfolding segment packets
length-segment m k h = simp (length-take, length-drop, length-headed) (omega arith)

-- the segments joined are header and message
segments_up_to-take : (m : List ℕ) (k : ℕ) → segments_up_to m k ≡ take (16 * k) (headed m)
unfolding segments_up_to segment
segments_up_to-take m zero = refl
segments_up_to-take m (suc k) = rw (segments_up_to-take m k, mul-suc) (sym (take-add (16 * k) 16 (headed m)))

pub headed_segments : (m : List ℕ) → segments_up_to m (packets (length m)) ≡ headed m
unfolding packets
headed_segments m =
    let all : length (headed m) ≤ 16 * packets (length m) = rw length-headed (omega arith) in
    segments_up_to-take m (packets (length m)) ∙ take_all (16 * packets (length m)) (headed m) all

-- the parts of the message in the first segment and in a later one
segment_first : (m : List ℕ) → segment m 0 ≡ header (length m) ++ take (16 - length (header (length m))) m
unfolding segment headed
segment_first m =
    let e : 16 ≡ length (header (length m)) + (16 - length (header (length m))) = omega (arith, length-header (length m)) in
    ap (λ (n : ℕ). take n (header (length m) ++ m)) e ∙ take-append-add (header (length m)) m (16 - length (header (length m)))

segment_later : (m : List ℕ) (k : ℕ) → segment m (suc k) ≡ take 16 (drop (16 * suc k - length (header (length m))) m)
unfolding segment headed
segment_later m k =
    let e : 16 * suc k ≡ length (header (length m)) + (16 * suc k - length (header (length m))) = omega (arith, length-header (length m)) in
    ap (λ (n : ℕ). take 16 (drop n (header (length m) ++ m))) e
    ∙ ap (take 16) (drop-append-add (header (length m)) m (16 * suc k - length (header (length m))))

-- each segment is the header, if it is segment 0, and a part of the message, which lies in the message
min_sub : (len from end n : ℕ) → from + len ≡ end → min end n - from ≡ min len (n - from)
min_sub len from end n e = omega arith

take_part : (len from end : ℕ) (m : List ℕ) → from + len ≡ end → take (min end (length m) - from) (drop from m) ≡ take len (drop from m)
take_part len from end m e = rw (min_sub len from end (length m) e, ← length-drop from m) (take_min len (drop from m))

pub segment_part : (m : List ℕ) (k : ℕ)
    → segment m k ≡ cond (eqb k 0) (header (length m)) [] ++ take (part_of (length m) k).len (drop (part_of (length m) k).from m)
unfolding part_of part_from
segment_part m zero =
    let h = length (header (length m)) in
    let none : 16 * 0 - h ≡ 0 = omega arith in
    let end : 0 + (16 - h) ≡ 16 * (0 + 1) - h = omega arith in
    rw none (segment_first m ∙ ap (λ (l : List ℕ). header (length m) ++ l) (sym (take_part (16 - h) 0 (16 * (0 + 1) - h) m end)))
segment_part m (suc k) =
    let h = length (header (length m)) in
    let end : 16 * suc k - h + 16 ≡ 16 * (suc k + 1) - h = omega (arith, length-header (length m)) in
    rw eqb-suc-zero (segment_later m k ∙ sym (take_part 16 (16 * suc k - h) (16 * (suc k + 1) - h) m end))

pub part_of_le : (n k : ℕ) → k < packets n → (part_of n k).from + (part_of n k).len ≤ n
unfolding part_of part_from packets
part_of_le n k h = omega (arith, length-header n)

-- a part from where it starts, the room that it has and the bytes that are left
pub part_of_eq : (n k from room len : ℕ) → from ≡ 16 * k - length (header n) → from + room ≡ 16 * (k + 1) - length (header n)
    → len ≡ min room (n - from) → record { from = from; len = len } ≡ part_of n k
unfolding part_of part_from
part_of_eq n k from room len starts ends fits = cc (min_sub room from (16 * (k + 1) - length (header n)) n ends)

-- the bytes of a segment
pub segment-Bytes : (m : List ℕ) (k : ℕ) → Bytes m → Bytes (segment m k)
unfolding segment headed
segment-Bytes m k h =
    Bytes-take 16 (drop (16 * k) (header (length m) ++ m))
    (Bytes-drop (16 * k) (header (length m) ++ m) (Bytes_append (header (length m)) m (header-Bytes (length m)) h))

-- a link number is 0, 1 or 2
pub link_of_lt : (k n : ℕ) → link_of k n < 3
unfolding link_of
link_of_lt k n = go (eqb k 0) (eqb (k + 1) n)
  where
    go : (a b : Bool) → cond a 2 (cond b 1 0) < 3
    go true b = omega arith
    go false true = omega arith
    go false false = omega arith
