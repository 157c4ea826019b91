-- A receiver's record and its 61 bytes determine each other: every record's bytes are unpacked to it, and `is_receiver` says of all bytes whether they are some record's.
use mathlib.Core.Path.{◌≡◌, refl}
use Prim.Native.Nat.{ℕ, zero, suc, ◌+◌, ◌≤◌}
use native.Mathlib.Omega.{arith}
use mathlib.Core.Bool.{Bool, true, false}
use mathlib.Core.List.{List, [], ◌∷◌, ◌++◌}
use lib.ListN.{length, take}
use lib.Seq.{take_at, length-slice}
use lib.Dec.{leb, eqb}
use borrow.Author.Tests.{leb-true}
use Rattle.bits.specs.Bits.{bit_value, Bytes}
use Rattle.bits.proofs.Bits.{Bytes-take, Bytes-drop}
use Rattle.bits.proofs.Tests.{and_left, and_right}
use Rattle.packet.specs.Lists.{AllAre}
use Rattle.notices.specs.declared.Slot.{Slot}
use Rattle.receiver.specs.declared.Receiver.{Receiver}
use Rattle.layout.specs.Layout.{low_bytes, byte_at, number_at, circuit_bytes, circuit_from, circuits_bytes, circuits_in}
use Rattle.framing_layout.specs.FramingBytes.{framing_bytes, framing_in}
use Rattle.receiver_layout.specs.ReceiverBytes.{receiver_length, slot_bytes, slot_in, slots_bytes, receiver_bytes, receiver_in, is_receiver}
use Rattle.layout.specs.Fits.{Four}
use Rattle.receiver_layout.specs.Fits.{ReceiverSlotFits, ReceiverFits}
use Rattle.layout.proofs.Parts.{byte_fits, number_fits, number_unpacks, number_packs, four_elements, circuits_unpack, circuits_fit, read_slice}

-- ---- a slot's first byte

seen_unpacks : (b : Bool) → eqb (bit_value b) 1 ≡ b
unfolding bit_value
seen_unpacks true = refl
seen_unpacks false = refl

seen_is : (b : Bool) → leb (bit_value b) 1 ≡ true
unfolding bit_value
seen_is true = refl
seen_is false = refl

seen_packs : (n : ℕ) → leb n 1 ≡ true → bit_value (eqb n 1) ≡ n
unfolding bit_value
seen_packs zero h = refl
seen_packs (suc zero) h = refl
seen_packs (suc (suc n)) h = absurd (omega (arith, leb-true (suc (suc n)) 1 h))

-- ---- unpacking what was packed gives the record back

slot_unpacks : (t : Slot) → ReceiverSlotFits t → slot_in (slot_bytes t) 0 ≡ t
unfolding slot_in slot_bytes low_bytes number_at byte_at
slot_unpacks t fits = rw (seen_unpacks t.seen, number_unpacks 2 t.length fits.length_fits [], number_unpacks 2 t.place fits.place [])

pub length-slot_bytes : (t : Slot) → length (slot_bytes t) ≡ 6
unfolding slot_bytes low_bytes
length-slot_bytes t = refl

slots_unpack : (ts : List Slot) → Four ReceiverSlotFits ts
    → slot_in (slots_bytes ts) 0 ∷ slot_in (slots_bytes ts) 6 ∷ slot_in (slots_bytes ts) 12 ∷ slot_in (slots_bytes ts) 18 ∷ [] ≡ ts
unfolding slot_in slots_bytes slot_bytes low_bytes number_at byte_at
slots_unpack =
    four_elements (λ ts. slot_in (slots_bytes ts) 0 ∷ slot_in (slots_bytes ts) 6 ∷ slot_in (slots_bytes ts) 12 ∷ slot_in (slots_bytes ts) 18 ∷ [] ≡ ts)
    (λ a b c d fa fb fc fd i. slot_unpacks a fa i ∷ slot_unpacks b fb i ∷ slot_unpacks c fc i ∷ slot_unpacks d fd i ∷ [])

pub receiver_unpacks : (r : Receiver) → ReceiverFits r → (rest : List ℕ) → receiver_in (receiver_bytes r ++ rest) ≡ r
unfolding receiver_in receiver_bytes circuits_in circuits_bytes circuit_from circuit_bytes slot_in slots_bytes slot_bytes framing_in framing_bytes low_bytes number_at byte_at
receiver_unpacks r fits rest =
    λ i. record {
      circuits = circuits_unpack r.circuits fits.circuits [] i;
      slots = slots_unpack r.slots fits.slots i;
      framing =
          record {
            phase = r.framing.phase;
            ones = r.framing.ones;
            count = r.framing.count;
            bits = take_at r.framing.bits rest 21 fits.framing.twenty_one i;
          };
    }

-- ---- packing what was unpacked gives the bytes back, where they are some record's

pub receiver_packs : (bytes : List ℕ) → Bytes bytes → receiver_length ≤ length bytes → is_receiver bytes ≡ true
    → receiver_bytes (receiver_in bytes) ≡ take receiver_length bytes
unfolding receiver_in receiver_bytes circuits_in circuits_bytes circuit_from circuit_bytes slot_in slots_bytes slot_bytes framing_in framing_bytes is_receiver
receiver_packs bytes are long is =
    let a : bit_value (eqb (byte_at bytes 13) 1) ≡ byte_at bytes 13 = seen_packs (byte_at bytes 13) (search (and_left, and_right)) in
    let b : bit_value (eqb (byte_at bytes 19) 1) ≡ byte_at bytes 19 = seen_packs (byte_at bytes 19) (search (and_left, and_right)) in
    let c : bit_value (eqb (byte_at bytes 25) 1) ≡ byte_at bytes 25 = seen_packs (byte_at bytes 25) (search (and_left, and_right)) in
    let d : bit_value (eqb (byte_at bytes 31) 1) ≡ byte_at bytes 31 = seen_packs (byte_at bytes 31) (search (and_left, and_right)) in
    simp (number_packs 2 bytes are, a, b, c, d) (read_slice 40 bytes 0 61 (omega arith) long)

pub receiver-fits : (bytes : List ℕ) → Bytes bytes → receiver_length ≤ length bytes → ReceiverFits (receiver_in bytes)
unfolding receiver_in slot_in framing_in AllAre
receiver-fits bytes are long =
    record {
      circuits = circuits_fit bytes are;
      slots = record { four = refl; each = (slot 13, (slot 19, (slot 25, (slot 31, tt)))) };
      framing =
          record {
            phase = byte_fits bytes are 37;
            ones = byte_fits bytes are 38;
            count = byte_fits bytes are 39;
            twenty_one = length-slice 40 61 bytes long;
            bits = Bytes-drop 40 (take 61 bytes) (Bytes-take 61 bytes are);
          };
    }
  where
    slot : (at : ℕ) → ReceiverSlotFits (slot_in bytes at)
    slot at =
        record { last = byte_fits bytes are (at + 1); length_fits = number_fits 2 bytes are (at + 2); place = number_fits 2 bytes are (at + 4) }

-- ---- no other bytes are a record's

pub receiver_is : (r : Receiver) (rest : List ℕ) → is_receiver (receiver_bytes r ++ rest) ≡ true
unfolding is_receiver receiver_bytes circuits_bytes circuit_bytes slots_bytes slot_bytes low_bytes byte_at
receiver_is r rest = simp seen_is

pub no_receiver : (bytes : List ℕ) → is_receiver bytes ≡ false → (r : Receiver) (rest : List ℕ) → receiver_bytes r ++ rest ≡ bytes → ⊥
no_receiver bytes not r rest e =
    let is : is_receiver bytes ≡ true = rw e at (receiver_is r rest) in
    let z : ◌≡◌ {A = ℕ} 0 1 = cc in
    omega arith
