-- A receiver's record fits its bytes from a listing on: a fresh one does, and so does what a reading call leaves of one that does.
use Prim.Native.Nat.{ℕ, ◌≤◌, ◌<◌}
use mathlib.Core.Bool.{Bool, true, false, cond, ◌&&◌, ◌||◌}
use mathlib.Core.List.{List}
use Rattle.std.proofs.Common.{Option, None, Some}
use mathlib.Core.Path.{◌≡◌, refl}
use native.Mathlib.Omega.{arith}
use borrow.Author.Tests.{ltb-true, leb-true, eqb-true}
use lib.ListN.{take}
use lib.Dec.{ltb, eqb}
use Rattle.bits.specs.Bits.{bits_of, Bytes}
use Rattle.bits.proofs.Bits.{Bytes-take}
use Rattle.bits.proofs.Tests.{and_left, and_right}
use Rattle.hdlc.specs.Stuffing.{end_ones}
use Rattle.packet.specs.Stores.{Stores, longest_at}
use Rattle.packet.specs.Circuits.{listed, listing, number_from}
use Rattle.packet.specs.Messages.{longest_long}
use Rattle.packet.proofs.Lists.{AllAre-replicate}
use Rattle.packet.proofs.LongBuffers.{longest_at_bounds}
use Rattle.framing.specs.declared.Framing.{Framing}
use Rattle.framing.specs.declared.Check.{Check}
use Rattle.framing.specs.declared.Check.TheVariants.{Packet, Spoilt, Nothing}
use Rattle.framing.specs.declared.Scan.{Scan}
use Rattle.framing.specs.Machine.{empty, fresh as fresh_framing}
use Rattle.framing.specs.Range.{in_fives, phase_right, in_range as framing_in_range}
use Rattle.framing.proofs.ScanInRange.{Array21, Array21-fresh}
use Rattle.notices.specs.declared.Slot.{Slot}
use Rattle.notices.specs.declared.Hearing.{Hearing}
use Rattle.receiver.specs.declared.Receiver.{Receiver}
use Rattle.notices.specs.Slots.{fresh_slot, slot_at, slot_in_range}
use Rattle.receiver.specs.Record.{fresh, in_range}
use Rattle.parsing.specs.Packets.{address, circuit_in, malformed}
use Rattle.notices.specs.Heard.{heard_at, heard_by, system_heard, heard}
use Rattle.receiver.specs.Reading.{with_framing, passed, noticed, read_by, read_scan, read_refusal, receiver_after_read}
use Rattle.packet.proofs.Choices.{cond_either}
use Rattle.notices.proofs.SlotsInRange.{get_or-slots_in_range, slot_after_in_range}
use Rattle.packet.proofs.CircuitLists.{number_lt}
use Rattle.receiver.proofs.InRange.{in_range_parts, arrays, scanned_in_range}
use Rattle.layout.specs.Fits.{Four}
use Rattle.receiver_layout.specs.Fits.{ReceiverSlotFits, FramingFits, ReceiverFits}
use Rattle.exported.proofs.Fitting.{Four-set, listing-fits}

-- ---- a fresh record

pub fresh-fits : (list : List ℕ) → Bytes list → ReceiverFits (fresh (listing list))
unfolding fresh fresh_slot fresh_framing empty
fresh-fits list are =
    let slot : ReceiverSlotFits fresh_slot = record { last = omega arith; length_fits = omega arith; place = omega arith } in
    record {
      circuits = listing-fits list are;
      slots = record { four = refl; each = AllAre-replicate ReceiverSlotFits 4 fresh_slot slot };
      framing =
          record {
            phase = omega arith;
            ones = omega arith;
            count = omega arith;
            twenty_one = Array21-fresh.long;
            bits = Array21-fresh.each;
          };
    }

-- ---- what is in range fits

slot_fits : {most : ℕ} (t : Slot) → most ≤ longest_long → slot_in_range most t ≡ true → ReceiverSlotFits t
unfolding slot_in_range longest_long
slot_fits {most} t within e =
    let last : t.last ≤ 7 = leb-true t.last 7 (search (and_left, and_right)) in
    let long : t.length ≤ most = leb-true t.length most (search (and_left, and_right)) in
    let place : t.place ≤ t.length = leb-true t.place t.length (search (and_left, and_right)) in
    record { last = omega arith; length_fits = omega arith; place = omega arith }

phase_most : (f : Framing) → phase_right f ≡ true → f.phase ≤ 4
unfolding phase_right
phase_most f = go (eqb f.phase 0) (ltb f.phase 3) (eqb f.phase 3) refl refl refl
  where
    go : (a b c : Bool) → eqb f.phase 0 ≡ a → ltb f.phase 3 ≡ b → eqb f.phase 3 ≡ c
        → cond a (eqb f.ones 0 && eqb f.count 0)
        (cond b (eqb f.count 0)
        (cond c true (eqb f.phase 4 && (eqb f.count 169 || in_fives (end_ones (take f.count (bits_of f.bits)) 0)))))
        ≡ true → f.phase ≤ 4
    go true b c p q r e = let is : f.phase ≡ 0 = eqb-true f.phase 0 p in omega arith
    go false true c p q r e = let is : f.phase < 3 = ltb-true f.phase 3 q in omega arith
    go false false true p q r e = let is : f.phase ≡ 3 = eqb-true f.phase 3 r in omega arith
    go false false false p q r e = let is : f.phase ≡ 4 = eqb-true f.phase 4 (and_left _ _ e) in omega arith

framing-fits : (f : Framing) → Array21 f.bits → framing_in_range f ≡ true → FramingFits f
unfolding framing_in_range
framing-fits f array e =
    let ones : f.ones < 7 = ltb-true f.ones 7 (search (and_left, and_right)) in
    let count : f.count < 170 = ltb-true f.count 170 (search (and_left, and_right)) in
    let phase : f.phase ≤ 4 = phase_most f (search (and_left, and_right)) in
    record { phase = omega arith; ones = omega arith; count = omega arith; twenty_one = array.long; bits = array.each }

-- ---- a packet

module _ (given : Bool) (r : Receiver) (p : List ℕ) (are : Bytes p) (range : in_range given r ≡ true) (slots : Four ReceiverSlotFits r.slots) where
  heard_by-fits : (n : Option ℕ) → number_from (listed r.circuits) (circuit_in p) 0 ≡ n → Four ReceiverSlotFits (heard_by given n r.slots p).slots
  unfolding heard_by heard_at slot_at
  heard_by-fits None e = slots
  heard_by-fits (Some c) e =
      let old : slot_in_range (longest_at given c) (slot_at r.slots c) ≡ true
      = get_or-slots_in_range given r.circuits.count r.slots c (number_lt r.circuits (circuit_in p) c e) (in_range_parts given r range).slots in
      Four-set ReceiverSlotFits r.slots c _
      (slot_fits _ (longest_at_bounds given c).1 (slot_after_in_range given c (slot_at r.slots c) p are old)) slots

  heard-fits : Four ReceiverSlotFits (heard given r.circuits r.slots p).slots
  unfolding heard system_heard
  heard-fits =
      cond_either (λ (h : Hearing). Four ReceiverSlotFits h.slots) (malformed p) _ _ (λ _. slots)
      (λ _. cond_either (λ (h : Hearing). Four ReceiverSlotFits h.slots) (eqb (address p) 0xff) _ _ (λ _. slots)
      (λ _. heard_by-fits (number_from (listed r.circuits) (circuit_in p) 0) refl))

noticed-fits : (c : Check) (bytes : List ℕ) (r : Receiver) (store : Stores) → Bytes bytes → in_range store.given r ≡ true → ReceiverFits r
    → ReceiverFits (noticed c bytes r store).receiver
unfolding noticed passed
noticed-fits (Packet n) bytes r store are range fits =
    record {
      circuits = fits.circuits;
      slots = heard-fits store.given r (take n bytes) (Bytes-take n bytes are) range fits.slots;
      framing = fits.framing;
    }
noticed-fits Spoilt bytes r store are range fits = fits
noticed-fits Nothing bytes r store are range fits = fits

-- ---- a reading call

module _ (r : Receiver) (store : Stores) (bits : List ℕ) (from to : ℕ) (fits : ReceiverFits r) where
  array : Array21 r.framing.bits
  array = record { long = fits.framing.twenty_one; each = fits.framing.bits }

  -- a record out of range is left as it is
  out_of_range : in_range store.given r ≡ false → receiver_after_read r store bits from to ≡ r
  unfolding receiver_after_read read_refusal
  out_of_range e = rw e

  -- one in range has then the framing that the scan leaves
  scanned_fits : in_range store.given r ≡ true → ReceiverFits (with_framing r (read_scan r bits from to).framing)
  unfolding with_framing
  scanned_fits range =
      let f : Framing = (read_scan r bits from to).framing in
      let after = scanned_in_range r store bits from to array range in
      record {
        circuits = fits.circuits;
        slots = fits.slots;
        framing = framing-fits f (arrays r store bits from to array).left (in_range_parts store.given (with_framing r f) after).framing;
      }

  pub read_fits : ReceiverFits (receiver_after_read r store bits from to)
  unfolding receiver_after_read read_by
  read_fits = go (in_range store.given r) refl
    where
      go : (t : Bool) → in_range store.given r ≡ t → ReceiverFits (receiver_after_read r store bits from to)
      go true range =
          let s : Scan = read_scan r bits from to in
          cond_either ReceiverFits (eqb (read_refusal r store bits from to) 0) _ _
          (λ _. noticed-fits s.check s.bytes (with_framing r s.framing) store (arrays r store bits from to array).told.each
          (scanned_in_range r store bits from to array range) (scanned_fits range))
          (λ _. fits)
      go false range = rw (out_of_range range) fits
