-- An offer to the sender in the bytes, and a long one: by what it is refused, and what a refused one and an accepted one answer and leave.
use Rattle.std.proofs.Common.{◌≡◌, ℕ, ◌+◌, ◌*◌, ◌≤◌, ◌<◌, true, cond, List, length, get_or, Result, Ok, Err, eqb, refl, sym, ◌∙◌, arith}
use lib.Seq.{sets}
use Rattle.bits.specs.Bits.{Bytes}
use Rattle.packet.specs.Messages.{longest_long}
use Rattle.packet.specs.Stores.{region, Stores}
use Rattle.packet.specs.declared.Refusal.{Refusal}
use Rattle.packet.specs.Answers.{answer_of}
use Rattle.packet.proofs.AnswerNumbers.{answer_of-Ok}
use Rattle.offering.specs.declared.Slot.{Slot}
use Rattle.offering.specs.Record.{in_range, pending}
use Rattle.offering.specs.Offering.{
  bounds_refusal,
  offer_refusal,
  offered_slot,
  offered_sender,
  offered_stores,
  sender_after_offer,
  stores_after_offer,
  long_bounds_refusal,
  long_refusal,
  offered_long,
  sender_after_long,
  stores_after_long,
}
use Rattle.offering.proofs.Offers.{offer_room, bounds_circuit, bounds-accepted, long_bounds-accepted}
use Rattle.layout.specs.Layout.{byte_at, circuits_in}
use Rattle.sender.proofs.MadeNumbers.{answer_of-Err}
use Rattle.sender_layout.specs.SenderBytes.{sender_length, slot_bytes, slot_in, sender_bytes, sender_in}
use Rattle.sender_calls.specs.Calls.{record_after_offer, record_after_long}
use Rattle.sender_calls.proofs.SlotsInPlace.{slot_there, slot_in_place}

-- the record with a message to send is written by writing t, the slot with the message
offered_in_place : (bytes : List ℕ) (c p r : ℕ) (message : List ℕ) → Bytes bytes → sender_length ≤ length bytes → c < 4 → {new : List ℕ} {t : Slot}
    → t ≡ offered_slot (slot_in bytes (13 + 10 * c)) p r message → new ≡ sets bytes (13 + 10 * c) (slot_bytes t)
    → new ≡ sets bytes 0 (sender_bytes (offered_sender (sender_in bytes) c p r message))
unfolding offered_sender
offered_in_place bytes c p r message are long four slot_is New-is = rw (← slot_there bytes c four, ← slot_is) (New-is ∙ slot_in_place bytes are long c _ four)

module _ (bytes : List ℕ) (l : Stores) (c p r : ℕ) (message : List ℕ) where
  -- ---- the refusal, to a sender in range, by the first byte, the number of its circuits
  module _ {n : ℕ} (range : in_range l.given (sender_in bytes) ≡ true) (count : n ≡ get_or bytes 0 0) where
    same : answer_of (bounds_refusal l n c p r message) ≡ answer_of (bounds_refusal l (sender_in bytes).circuits.count c p r message)
    unfolding sender_in circuits_in byte_at
    same = rw count refl

    module _ (u : Unit {0}) (kept : answer_of (bounds_refusal l n c p r message) ≡ Ok u) where
      pub circuit_there : c < 4
      circuit_there = bounds_circuit (sender_in bytes) l c p r message range u (sym same ∙ kept)

      pub pending_there : {waits : _} → waits ≡ pending (slot_in bytes (13 + 10 * c))
          → offer_refusal (sender_in bytes) l c p r message ≡ cond waits 10 0
      pending_there e =
          rw (bounds-accepted (sender_in bytes) l c p r message range u (sym same ∙ kept), e, slot_there bytes c circuit_there) refl

  -- ---- what an offer answers, and the record's bytes and the stores then
  abbrev pub Offered : Result (Unit {0}) Refusal → List ℕ → Stores → Type 0
  Offered answer new k =
      (answer ≡ answer_of (offer_refusal (sender_in bytes) l c p r message)) × (new ≡ record_after_offer bytes l c p r message)
      × (k ≡ stores_after_offer (sender_in bytes) l c p r message)

  pub offer_refused : (e : Refusal) → answer_of (offer_refusal (sender_in bytes) l c p r message) ≡ Err e → Offered (Err e) bytes l
  unfolding record_after_offer stores_after_offer
  offer_refused e is =
      let no : eqb (offer_refusal (sender_in bytes) l c p r message) 0 ≡ _ = answer_of-Err _ e is in
      (sym is, rw no refl, rw no refl)

  module _ (u : Unit {0}) (is : answer_of (offer_refusal (sender_in bytes) l c p r message) ≡ Ok u) where
    pub room : (c < 4) × (length message ≤ longest_long) × (region * c + length message ≤ length l.store)
    room = offer_room _ _ _ _ _ _ (answer_of-Ok _ u is)

    -- t is the slot that is written
    pub offer-accepted : Bytes bytes → sender_length ≤ length bytes → {new : List ℕ} {k : Stores} {t : Slot}
        → t ≡ offered_slot (slot_in bytes (13 + 10 * c)) p r message → new ≡ sets bytes (13 + 10 * c) (slot_bytes t) → k ≡ offered_stores l c message
        → Offered (Ok tt) new k
    unfolding record_after_offer stores_after_offer sender_after_offer
    offer-accepted are long slot_is New-is stores-are =
        let zero_is : offer_refusal (sender_in bytes) l c p r message ≡ 0 = answer_of-Ok _ u is in
        (sym is, rw zero_is (offered_in_place bytes c p r message are long room.0 slot_is New-is), rw zero_is stores-are)

-- the same of a long offer
module _ (bytes : List ℕ) (l : Stores) (p r : ℕ) (message : List ℕ) where
  module _ {n : ℕ} (range : in_range l.given (sender_in bytes) ≡ true) (count : n ≡ get_or bytes 0 0) where
    same_long : answer_of (long_bounds_refusal l n p r message) ≡ answer_of (long_bounds_refusal l (sender_in bytes).circuits.count p r message)
    unfolding sender_in circuits_in byte_at
    same_long = rw count refl

    pub long_pending_there : (u : Unit {0}) → answer_of (long_bounds_refusal l n p r message) ≡ Ok u → {waits : _} → waits ≡ pending (slot_in bytes 13)
        → long_refusal (sender_in bytes) l p r message ≡ cond waits 10 0
    long_pending_there u kept e =
        rw (long_bounds-accepted (sender_in bytes) l p r message range u (sym same_long ∙ kept), e, slot_there bytes 0 (omega arith)) refl

  abbrev pub LongOffered : Result (Unit {0}) Refusal → List ℕ → Stores → Type 0
  LongOffered answer new k =
      (answer ≡ answer_of (long_refusal (sender_in bytes) l p r message)) × (new ≡ record_after_long bytes l p r message)
      × (k ≡ stores_after_long (sender_in bytes) l p r message)

  pub long_refused : (e : Refusal) → answer_of (long_refusal (sender_in bytes) l p r message) ≡ Err e → LongOffered (Err e) bytes l
  unfolding record_after_long stores_after_long
  long_refused e is =
      let no : eqb (long_refusal (sender_in bytes) l p r message) 0 ≡ _ = answer_of-Err _ e is in
      (sym is, rw no refl, rw no refl)

  pub long-accepted : (u : Unit {0}) → answer_of (long_refusal (sender_in bytes) l p r message) ≡ Ok u → Bytes bytes → sender_length ≤ length bytes
      → {new : List ℕ} {k : Stores} {t : Slot} → t ≡ offered_slot (slot_in bytes 13) p r message → new ≡ sets bytes 13 (slot_bytes t)
      → k ≡ offered_long l message → LongOffered (Ok tt) new k
  unfolding record_after_long stores_after_long sender_after_long
  long-accepted u is are long slot_is New-is stores-are =
      let zero_is : long_refusal (sender_in bytes) l p r message ≡ 0 = answer_of-Ok _ u is in
      (sym is, rw zero_is (offered_in_place bytes 0 p r message are long (omega arith) slot_is New-is), rw zero_is stores-are)
