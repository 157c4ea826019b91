-- A sender's record and its 55 bytes determine each other: every record's bytes are unpacked to it, and all bytes are some record's.
use mathlib.Core.Path.{◌≡◌, refl}
use Prim.Native.Nat.{ℕ, ◌+◌, ◌≤◌}
use native.Mathlib.Omega.{arith}
use mathlib.Core.List.{List, [], ◌∷◌, ◌++◌}
use lib.ListN.{length, take, get_or}
use lib.Seq.{slice_empty}
use Rattle.bits.specs.Bits.{Bytes}
use Rattle.packet.specs.Lists.{AllAre}
use Rattle.offering.specs.declared.Slot.{Slot}
use Rattle.offering.specs.declared.Sender.{Sender}
use Rattle.offering.specs.Record.{no_slot}
use Rattle.layout.specs.Layout.{low_bytes, byte_at, number_at, circuit_bytes, circuit_from, circuits_bytes, circuits_in}
use Rattle.sender_layout.specs.SenderBytes.{sender_length, slot_bytes, slot_in, slots_bytes, sender_bytes, sender_in}
use Rattle.layout.specs.Fits.{Four}
use Rattle.sender_layout.specs.Fits.{SenderSlotFits, SenderFits}
use Rattle.layout.proofs.Parts.{byte_fits, number_fits, number_unpacks, number_packs, four_elements, circuits_unpack, circuits_fit, read_slice}

-- four slots are the list of them
pub four_slots : (ts : List Slot) → length ts ≡ 4 → {a b c d : Slot} → get_or ts 0 no_slot ≡ a → get_or ts 1 no_slot ≡ b → get_or ts 2 no_slot ≡ c
    → get_or ts 3 no_slot ≡ d → ts ≡ a ∷ b ∷ c ∷ d ∷ []
four_slots [] four e f g h = absurd (omega (arith, four))
four_slots (a ∷ []) four e f g h = absurd (omega (arith, four))
four_slots (a ∷ b ∷ []) four e f g h = absurd (omega (arith, four))
four_slots (a ∷ b ∷ c ∷ []) four e f g h = absurd (omega (arith, four))
four_slots (a ∷ b ∷ c ∷ d ∷ []) four e f g h = cc
four_slots (a ∷ b ∷ c ∷ d ∷ x ∷ ts) four e f g h = absurd (omega (arith, four))

-- ---- unpacking what was packed gives the record back

slot_unpacks : (t : Slot) → SenderSlotFits t → slot_in (slot_bytes t) 0 ≡ t
unfolding slot_in slot_bytes low_bytes number_at byte_at
slot_unpacks t fits =
    simp (number_unpacks 2 t.length fits.length_fits [], number_unpacks 2 t.place fits.place [], number_unpacks 2 t.left fits.left []) refl

pub length-slot_bytes : (t : Slot) → length (slot_bytes t) ≡ 10
unfolding slot_bytes low_bytes
length-slot_bytes t = refl

slots_unpack : (ts : List Slot) → Four SenderSlotFits ts
    → slot_in (slots_bytes ts) 0 ∷ slot_in (slots_bytes ts) 10 ∷ slot_in (slots_bytes ts) 20 ∷ slot_in (slots_bytes ts) 30 ∷ [] ≡ ts
unfolding slot_in slots_bytes slot_bytes low_bytes number_at byte_at
slots_unpack =
    four_elements (λ ts. slot_in (slots_bytes ts) 0 ∷ slot_in (slots_bytes ts) 10 ∷ slot_in (slots_bytes ts) 20 ∷ slot_in (slots_bytes ts) 30 ∷ [] ≡ ts)
    (λ a b c d fa fb fc fd i. slot_unpacks a fa i ∷ slot_unpacks b fb i ∷ slot_unpacks c fc i ∷ slot_unpacks d fd i ∷ [])

pub sender_unpacks : (s : Sender) → SenderFits s → (rest : List ℕ) → sender_in (sender_bytes s ++ rest) ≡ s
unfolding sender_in sender_bytes circuits_in circuits_bytes circuit_from circuit_bytes slot_in slots_bytes slot_bytes low_bytes number_at byte_at
sender_unpacks s fits rest =
    λ i. record {
      circuits = circuits_unpack s.circuits fits.circuits [] i;
      slots = slots_unpack s.slots fits.slots i;
      last = s.last;
      enable = s.enable;
    }

-- ---- packing what was unpacked gives the bytes back, whichever they are

pub sender_packs : (bytes : List ℕ) → Bytes bytes → sender_length ≤ length bytes → sender_bytes (sender_in bytes) ≡ take sender_length bytes
unfolding sender_in sender_bytes circuits_in circuits_bytes circuit_from circuit_bytes slot_in slots_bytes slot_bytes
sender_packs bytes are long =
    simp (number_packs 2 bytes are) (rw (slice_empty sender_length bytes) at (read_slice sender_length bytes 0 sender_length (omega arith) long))

pub sender-fits : (bytes : List ℕ) → Bytes bytes → SenderFits (sender_in bytes)
unfolding sender_in slot_in AllAre
sender-fits bytes are =
    record {
      circuits = circuits_fit bytes are;
      slots = record { four = refl; each = (slot 13, (slot 23, (slot 33, (slot 43, tt)))) };
      last = byte_fits bytes are 53;
      enable = byte_fits bytes are 54;
    }
  where
    slot : (at : ℕ) → SenderSlotFits (slot_in bytes at)
    slot at =
        record {
          index = byte_fits bytes are at;
          priority = byte_fits bytes are (at + 1);
          repetition = byte_fits bytes are (at + 2);
          copy = byte_fits bytes are (at + 3);
          length_fits = number_fits 2 bytes are (at + 4);
          place = number_fits 2 bytes are (at + 6);
          left = number_fits 2 bytes are (at + 8);
        }
