-- What a scan's answer tells by itself: how far it went, and how long a packet is.
use Prim.Native.Nat.{ℕ, suc, ◌+◌, ◌-◌, ◌/◌, ◌%◌, ◌≤◌, ◌<◌}
use mathlib.Core.Bool.{Bool, true, false, cond, ◌&&◌}
use mathlib.Core.List.{List, [], ◌∷◌}
use mathlib.Core.Path.{◌≡◌, refl, subst}
use native.Mathlib.Omega.{arith}
use lib.ListN.{length, take, get_or}
use lib.Seq.{slice, slice-cons, length-slice}
use lib.Dec.{leb, eqb}
use borrow.Author.Tests.{leb-true}
use Rattle.bits.proofs.Tests.{and_left, and_right}
use Rattle.hdlc.specs.Bodies.{fcs_right}
use Rattle.framing.specs.declared.Framing.{Framing}
use Rattle.framing.specs.declared.Check.{Check}
use Rattle.framing.specs.declared.Check.TheVariants.{Packet, Spoilt, Nothing}
use Rattle.framing.specs.declared.Scan.{Scan}
use Rattle.framing.specs.Machine.{step, closes, check, whole}
use Rattle.framing.specs.Scanning.{ended, stopped, scan}

-- what holds of the later bits' scan, and of a stop at a bit, holds of a scan from that bit on
pub scan_cons : (P : Scan → Type 0) (f : Framing) (at : ℕ) (b : Bool) (bs : List Bool) → P (scan (step f b) (suc at) bs) →
    P (stopped (check f) f b at (scan (step f b) (suc at) bs)) → P (scan f at (b ∷ bs))
unfolding scan
scan_cons P f at b bs later stop = go (closes f b) refl
  where
    go : (t : Bool) → closes f b ≡ t →
        P (cond (closes f b) (stopped (check f) f b at (scan (step f b) (suc at) bs)) (scan (step f b) (suc at) bs))
    go true e = rw e stop
    go false e = rw e later

-- ---- how far a scan goes

-- the next bit's number where a scan stops at a bit
stopped_at : (P : ℕ → Type 0) (c : Check) (f : Framing) (b : Bool) (at : ℕ) (later : Scan) → P later.at → P (suc at) →
    P (stopped c f b at later).at
unfolding stopped
stopped_at P (Packet n) f b at later l s = s
stopped_at P Spoilt f b at later l s = s
stopped_at P Nothing f b at later l s = l

-- a scan goes no further than the bits
pub scan-most : (bs : List Bool) (f : Framing) (at : ℕ) → (scan f at bs).at ≤ at + length bs
unfolding scan ended
scan-most [] f at = omega arith
scan-most (b ∷ bs) f at =
    let later : (scan (step f b) (suc at) bs).at ≤ suc at + length bs = scan-most bs (step f b) (suc at) in
    scan_cons (λ s. s.at ≤ at + suc (length bs)) f at b bs (omega arith)
    (stopped_at (λ n. n ≤ at + suc (length bs)) (check f) f b at (scan (step f b) (suc at) bs) (omega arith) (omega arith))

-- and stays behind none
pub scan-least : (bs : List Bool) (f : Framing) (at : ℕ) → at ≤ (scan f at bs).at
unfolding scan ended
scan-least [] f at = omega arith
scan-least (b ∷ bs) f at =
    let later : suc at ≤ (scan (step f b) (suc at) bs).at = scan-least bs (step f b) (suc at) in
    scan_cons (λ s. at ≤ s.at) f at b bs (omega arith)
    (stopped_at (λ n. at ≤ n) (check f) f b at (scan (step f b) (suc at) bs) (omega arith) (omega arith))

-- where there is a bit, it is read
pub scan_reads : (b : Bool) (bs : List Bool) (f : Framing) (at : ℕ) → at < (scan f at (b ∷ bs)).at
scan_reads b bs f at =
    let later : suc at ≤ (scan (step f b) (suc at) bs).at = scan-least bs (step f b) (suc at) in
    scan_cons (λ s. at < s.at) f at b bs later
    (stopped_at (λ n. at < n) (check f) f b at (scan (step f b) (suc at) bs) later (omega arith))

-- ---- how long a packet is

-- a packet has 2 to 19 bytes, and its FCS two more
pub record Packed (n : ℕ) : Type 0 where
  pub least : 2 ≤ n
  pub most : n ≤ 19

abbrev InPacket : Check → Type 0
InPacket (Packet n) = Packed n
InPacket Spoilt = Unit {0}
InPacket Nothing = Unit {0}

-- the second and the third of five tests that hold
second_third : (a b c d e : Bool) → (a && b && c && d && e) ≡ true → (b ≡ true) × (c ≡ true)
second_third a b c d e h =
    let three = and_left (a && b && c) d (and_left (a && b && c && d) e h) in
    (and_right a b (and_left (a && b) c three), and_right (a && b) c three)

packed : (f : Framing) → whole f ≡ true → Packed (f.count / 8 - 2)
unfolding whole
packed f e =
    let tests = second_third (eqb f.phase 3) (leb 32 f.count) (leb f.count 168) (eqb (f.count % 8) 0)
    (fcs_right (take (f.count / 8) f.bits)) e in
    let long : 32 ≤ f.count = leb-true 32 f.count tests.0 in
    let short : f.count ≤ 168 = leb-true f.count 168 tests.1 in
    record { least = omega arith; most = omega arith }

check_packed : (f : Framing) → InPacket (check f)
unfolding check
check_packed f = go (whole f) refl
  where
    short : (t : Bool) → InPacket (cond t Spoilt Nothing)
    short true = tt
    short false = tt

    go : (t : Bool) → whole f ≡ t →
        InPacket (cond (whole f) (Packet (f.count / 8 - 2)) (cond (leb 32 f.count) Spoilt Nothing))
    go false e = rw e (short (leb 32 f.count))
    go true e = rw e (packed f e)

stopped_packed : (c : Check) (f : Framing) (b : Bool) (at : ℕ) (later : Scan) → InPacket c → InPacket later.check →
    InPacket (stopped c f b at later).check
unfolding stopped
stopped_packed (Packet n) f b at later h l = h
stopped_packed Spoilt f b at later h l = tt
stopped_packed Nothing f b at later h l = l

scan_in_packet : (bs : List Bool) (f : Framing) (at : ℕ) → InPacket (scan f at bs).check
unfolding scan ended
scan_in_packet [] f at = tt
scan_in_packet (b ∷ bs) f at =
    scan_cons (λ s. InPacket s.check) f at b bs (scan_in_packet bs (step f b) (suc at))
    (stopped_packed (check f) f b at (scan (step f b) (suc at) bs) (check_packed f) (scan_in_packet bs (step f b) (suc at)))

pub scan-packet : (bs : List Bool) (f : Framing) (at n : ℕ) → (scan f at bs).check ≡ Packet n → Packed n
scan-packet bs f at n e = subst InPacket e (scan_in_packet bs f at)

-- ---- a scan of a part of bits

-- from one bit number to another: at least a bit is read, and none from the end on
pub record Between (from to : ℕ) (s : Scan) : Type 0 where
  pub least : from < s.at
  pub most : s.at ≤ to

pub scan-between : (f : Framing) (bs : List Bool) (from to : ℕ) → from < to → to ≤ length bs →
    Between from to (scan f from (slice from to bs))
scan-between f bs from to h k =
    let n : length (slice from to bs) ≡ to - from = length-slice from to bs k in
    record {
      least =
          rw (slice-cons from to bs false h k) (scan_reads (get_or bs from false) (slice (suc from) to bs) f from);
      most = omega (arith, scan-most (slice from to bs) f from);
    }
