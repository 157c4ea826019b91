-- Reading with a framing alone: the code's tests are those of the definition of the refusals, what is known where none of them holds, and what a refusal and
-- a scan make of the call.
use Prim.Native.Nat.{ℕ, ◌-◌, ◌*◌, ◌≤◌}
use mathlib.Core.Bool.{Bool, true, false, cond, not, ◌||◌}
use mathlib.Core.List.{List}
use mathlib.Core.Path.{◌≡◌, refl, sym, ◌∙◌}
use native.Mathlib.Omega.{arith}
use lib.ListN.{length, take}
use lib.Seq.{sets, slice}
use lib.Dec.{ltb}
use borrow.Author.Tests.{ltb-false, ne_eqb, not-false}
use Rattle.bits.specs.Bits.{bits_of}
use Rattle.bits.proofs.Tests.{or_left, or_right}
use Rattle.framing.specs.declared.Framing.{Framing}
use Rattle.framing.specs.declared.Check.{Check}
use Rattle.framing.specs.declared.Check.TheVariants.{Packet, Spoilt, Nothing}
use Rattle.framing.specs.declared.Scan.{Scan}
use Rattle.framing.specs.Range.{in_range}
use Rattle.framing.proofs.Scanned.{scan-least, scan-packet}
use Rattle.scanning.specs.declared.stretch.Stretch.{Stretch}
use Rattle.scanning.specs.Lacking.{lacking}
use Rattle.scanning.specs.Stretch.{bits_in}
use Rattle.packet.specs.declared.Refusal.{Refusal}
use Rattle.packet.specs.Answers.{refusal_of, answered, answer_of}
use Rattle.std.specs.Prelude.{Result, Ok, Err}
use Rattle.std.proofs.Common.{Bor}
use Rattle.framing.specs.Scanning.{scan}
use Rattle.framing_layout.specs.FramingBytes.{framing_bytes, framing_in, length_given, framing_answer_bytes}
use Rattle.framing_layout.specs.Reading.{framing_scan, framing_refusal, framing_after, packet_after, answer_after}

module _ (f : Framing) (bits : List ℕ) (from to : ℕ) where
  -- ---- the refusals

  abbrev Gives : ℕ → Type 0
  Gives n = n ≡ framing_refusal f bits from to

  pub gives_14 : in_range f ≡ false → Gives 14
  unfolding framing_refusal
  gives_14 range = rw range

  module _ (range : in_range f ≡ true) where
    pub gives_15 : lacking bits from to ≡ true → Gives 15
    unfolding framing_refusal
    gives_15 e = rw (range, e)

    pub gives_0 : lacking bits from to ≡ false → Gives 0
    unfolding framing_refusal
    gives_0 e = rw (range, e)

  -- ---- an accepted call

  -- no test holds if no number is given
  none-holds : (a b : Bool) → ◌≡◌ {A = ℕ} (cond a 14 (cond b 15 0)) 0 → (a ≡ false) × (b ≡ false)
  none-holds true b h = absurd (omega arith)
  none-holds false true h = absurd (omega arith)
  none-holds false false h = (refl, refl)

  pub in-range : framing_refusal f bits from to ≡ 0 → in_range f ≡ true
  unfolding framing_refusal
  in-range h = not-false (in_range f) (none-holds (not (in_range f)) (ltb to from || ltb (8 * length bits) to) h).0

  pub before_scan : framing_refusal f bits from to ≡ 0 → (from ≤ to) × (to ≤ 8 * length bits)
  unfolding framing_refusal
  before_scan h =
      let holds = none-holds (not (in_range f)) (ltb to from || ltb (8 * length bits) to) h in
      (ltb-false to from (or_left (ltb to from) (ltb (8 * length bits) to) holds.1), ltb-false (8 * length bits) to (or_right (ltb to from) (ltb (8 * length bits) to) holds.1))

  module _ {s : Scan} (is : s ≡ framing_scan f bits from to) where
    pub from_least : from ≤ s.at
    unfolding framing_scan
    from_least = rw is (scan-least (slice from to (bits_of bits)) f from)

    -- the packet has room
    pub given-most : length_given s.check ≤ 19
    unfolding framing_scan length_given
    given-most = go s.check refl
      where
        go : (c : Check) → s.check ≡ c → length_given c ≤ 19
        go (Packet n) e = (scan-packet (slice from to (bits_of bits)) f from n (rw is at e)).most
        go Spoilt e = omega arith
        go Nothing e = omega arith

-- a scan of a stretch of lent bits
pub scan_stretch : (f : Framing) {s : Scan} (stretch : Stretch) {bits : Bor (List ℕ)} {from to : ℕ} → stretch.bytes ≡ bits → stretch.from ≡ from → stretch.to ≡ to
    → s ≡ scan f stretch.from (bits_in stretch) → s ≡ framing_scan f bits.now from to
unfolding framing_scan
scan_stretch f stretch b r t is = rw (b, r, t) at is

-- ---- what a call answers, and the bytes of the framing, those for the packet and those of the answer then

module _ (bytes bits : List ℕ) (from to : ℕ) (packet answer : List ℕ) where
  abbrev CallRead : Result (Unit {0}) Refusal → List ℕ → List ℕ → List ℕ → Type 0
  CallRead a new new_packet new_answer =
      (a ≡ answer_of (framing_refusal (framing_in bytes 0) bits from to)) × (new ≡ framing_after bytes bits from to)
      × (new_packet ≡ packet_after bytes bits from to packet) × (new_answer ≡ answer_after bytes bits from to answer)

  module _ {number : ℕ} (is : number ≡ framing_refusal (framing_in bytes 0) bits from to) where
    pub read_refused : (number ≡ 0 → ⊥) → {r : Refusal} → r ≡ refusal_of number → CallRead (Err r) bytes packet answer
    unfolding framing_after packet_after answer_after answer_of answered
    read_refused some e = rw (← is, ne_eqb number 0 some, e) (refl, refl, refl, refl)

    pub read_scanned : number ≡ 0 → {f : Framing} → f ≡ framing_in bytes 0 → {s : Scan} → s ≡ framing_scan f bits from to → {new new_packet new_answer : List ℕ}
        → new ≡ sets bytes 0 (framing_bytes s.framing) → {n : ℕ} → n ≡ length_given s.check → new_packet ≡ sets packet 0 (take n s.bytes)
        → new_answer ≡ sets answer 0 (framing_answer_bytes s.check (s.at - from)) → CallRead (Ok tt) new new_packet new_answer
    unfolding framing_after packet_after answer_after answer_of answered
    read_scanned none in_is scanned New-is long packet_is answer_is =
        let number-0 : framing_refusal (framing_in bytes 0) bits from to ≡ 0 = sym is ∙ none in
        rw (number-0, ← in_is, ← scanned) (refl, New-is, packet_is ∙ rw long, answer_is)
