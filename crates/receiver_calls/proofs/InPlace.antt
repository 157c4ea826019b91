-- A receiver's record changed in the bytes in which it lies: what is written of a slot or of the framing makes the bytes of the record with it.
use Prim.Native.Nat.{ℕ, zero, suc, ◌+◌, ◌*◌, ◌≤◌, ◌<◌}
use native.Mathlib.Omega.{arith}
use mathlib.Core.Bool.{true, cond}
use mathlib.Core.List.{List, ◌++◌}
use mathlib.Core.Path.{◌≡◌, refl, sym, ◌∙◌}
use lib.ListN.{length, take, drop, set, length-append, take-append-drop}
use lib.Seq.{sets, sets-eq, drop_at}
use Rattle.bits.specs.Bits.{Bytes}
use Rattle.bits.proofs.Lists.{sets_front}
use Rattle.packet.specs.Stores.{Stores, takes_long}
use Rattle.framing.specs.declared.Framing.{Framing}
use Rattle.notices.specs.declared.Slot.{Slot}
use Rattle.notices.specs.declared.Fate.{Fate}
use Rattle.notices.specs.declared.Notice.TheVariants.{Circuit}
use Rattle.notices.specs.Slots.{slot_at}
use Rattle.notices.specs.Fates.{is_copy, loss_of, fate_of, slot_after}
use Rattle.notices.specs.Stores.{stores_after_fate, stores_after_notice}
use Rattle.notices.specs.Heard.{heard_at}
use Rattle.receiver.specs.declared.Receiver.{Receiver}
use Rattle.receiver.specs.Reading.{with_framing}
use Rattle.layout.specs.Layout.{low_bytes, circuit_bytes, circuits_bytes}
use Rattle.framing_layout.specs.FramingBytes.{framing_bytes}
use Rattle.receiver_layout.specs.ReceiverBytes.{receiver_length, slot_bytes, slot_in, slots_bytes, receiver_bytes, receiver_in, is_receiver}
use Rattle.receiver_layout.proofs.ReceiverRoundTrip.{length-slot_bytes, receiver_packs, receiver-fits}

-- the slot of a circuit's number
pub slot_there : (bytes : List ℕ) (c : ℕ) → c < 4 → slot_in bytes (13 + 6 * c) ≡ slot_at (receiver_in bytes).slots c
unfolding receiver_in slot_at
slot_there bytes zero h = refl
slot_there bytes (suc zero) h = refl
slot_there bytes (suc (suc zero)) h = refl
slot_there bytes (suc (suc (suc zero))) h = refl
slot_there bytes (suc (suc (suc (suc c)))) h = absurd (omega arith)

pub length-receiver_bytes : (r : Receiver) → length r.framing.bits ≡ 21 → length (receiver_bytes r) ≡ 61
unfolding receiver_bytes circuits_bytes circuit_bytes slots_bytes slot_bytes framing_bytes low_bytes
length-receiver_bytes r e = rw e

module _ (bytes : List ℕ) (long : receiver_length ≤ length bytes) where
  -- a record's bytes at the start
  front : (r : Receiver) → length r.framing.bits ≡ 21 → sets bytes 0 (receiver_bytes r) ≡ receiver_bytes r ++ drop 61 bytes
  front r e = sets_front bytes (receiver_bytes r) (rw (length-receiver_bytes r e) long) ∙ rw (length-receiver_bytes r e)

  -- another framing behind it
  pub framing_in_place : (r : Receiver) → length r.framing.bits ≡ 21 → (f : Framing) → length f.bits ≡ 21
      → sets (sets bytes 0 (receiver_bytes r)) 37 (framing_bytes f) ≡ sets bytes 0 (receiver_bytes (with_framing r f))
  unfolding receiver_bytes circuits_bytes circuit_bytes slots_bytes slot_bytes framing_bytes low_bytes with_framing
  framing_in_place r e f g =
      rw (front r e, front (with_framing r f) g)
      (sets-eq (framing_bytes f) (receiver_bytes r ++ drop 61 bytes) 37 (omega (arith, length-append r.framing.bits (drop 61 bytes)))
      ∙ rw (g, drop_at r.framing.bits (drop 61 bytes) 21 e))

  module _ (are : Bytes bytes) (is : is_receiver bytes ≡ true) where
    whole : receiver_bytes (receiver_in bytes) ++ drop 61 bytes ≡ bytes
    whole = rw (receiver_packs bytes are long is) (take-append-drop 61 bytes)

    -- the framing has 21 bytes
    array : length (receiver_in bytes).framing.bits ≡ 21
    array = (receiver-fits bytes are long).framing.twenty_one

    -- a slot's bytes between the others
    place : (at : ℕ) (t : Slot) → at + 6 ≤ 61
        → sets bytes at (slot_bytes t) ≡ take at (receiver_bytes (receiver_in bytes) ++ drop 61 bytes) ++ slot_bytes t ++ drop (at + 6) (receiver_bytes (receiver_in bytes) ++ drop 61 bytes)
    place at t h = rw whole (sets-eq (slot_bytes t) bytes at (rw (length-slot_bytes t) (omega arith)) ∙ rw (length-slot_bytes t))

    -- the record's own bytes change nothing
    pub same_in_place : sets bytes 0 (receiver_bytes (receiver_in bytes)) ≡ bytes
    same_in_place = front (receiver_in bytes) array ∙ whole

    -- the record with another slot
    abbrev with_slot : ℕ → Slot → Receiver
    with_slot c t = record { circuits = (receiver_in bytes).circuits; slots = set (receiver_in bytes).slots c t; framing = (receiver_in bytes).framing }

    pub slot_in_place : (c : ℕ) → c < 4 → (t : Slot) → sets bytes (13 + 6 * c) (slot_bytes t) ≡ sets bytes 0 (receiver_bytes (with_slot c t))
    unfolding receiver_bytes circuits_bytes circuit_bytes slots_bytes slot_bytes framing_bytes low_bytes receiver_in
    slot_in_place zero h t = place 13 t (omega arith) ∙ sym (front (with_slot 0 t) array)
    slot_in_place (suc zero) h t = place 19 t (omega arith) ∙ sym (front (with_slot 1 t) array)
    slot_in_place (suc (suc zero)) h t = place 25 t (omega arith) ∙ sym (front (with_slot 2 t) array)
    slot_in_place (suc (suc (suc zero))) h t = place 31 t (omega arith) ∙ sym (front (with_slot 3 t) array)
    slot_in_place (suc (suc (suc (suc c)))) h t = absurd (omega arith)

-- ---- a listed circuit's packet

module _ (bytes : List ℕ) (l : Stores) (p : List ℕ) (c : ℕ) {t : Slot} (e : t ≡ slot_at (receiver_in bytes).slots c) where
  -- what the code makes of it
  pub circuit_heard : {fate : Fate} → fate ≡ fate_of (takes_long l.given c) t p → {loss : ℕ} → loss ≡ cond (is_copy t p) 0 (loss_of t p)
      → {next : Slot} → next ≡ slot_after fate t p → {new : List ℕ} → new ≡ sets bytes (13 + 6 * c) (slot_bytes next)
      → {after : Stores} → after ≡ stores_after_fate fate c t p l
      → (Circuit c loss fate ≡ (heard_at l.given c (receiver_in bytes).slots p).notice)
      × (new ≡ sets bytes (13 + 6 * c) (slot_bytes (slot_after (fate_of (takes_long l.given c) (slot_at (receiver_in bytes).slots c) p) (slot_at (receiver_in bytes).slots c) p)))
      × (after ≡ stores_after_notice (Circuit c loss fate) (receiver_in bytes).slots p l)
  unfolding heard_at stores_after_notice
  circuit_heard ef el en written stored = (rw (el, ef, e), written ∙ rw (en, ef, e), stored ∙ rw e)
