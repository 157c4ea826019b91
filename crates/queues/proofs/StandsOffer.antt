-- Offering: the record and store after an accepted offer stand for the queues with the message's copies at its circuit. The message begins
-- its own region, and no other region changes; a long one begins the long buffer, and no region changes.
use Prim.Native.Nat.{ℕ, ◌+◌, ◌-◌, ◌*◌, ◌≤◌, ◌<◌}
use native.Mathlib.Omega.{arith}
use mathlib.Core.Bool.{Bool, true, false, cond}
use mathlib.Core.List.{List, ◌++◌, append_assoc}
use mathlib.Core.Path.{◌≡◌, refl, sym, ap, ◌∙◌}
use lib.ListN.{length, take, drop, get_or}
use lib.Seq.{sets, sets-eq, take-append_seam, drop_at, length-take-le}
use lib.Dec.{ltb}
use borrow.Author.Tests.{ltb-true, ltb-false}
use Rattle.bits.proofs.Lists.{drop_sets_before, take_sets_behind, drop_sets_add}
use Rattle.packet.specs.Circuits.{no_circuit}
use Rattle.packet.specs.Messages.{longest}
use Rattle.packet.specs.Stores.{region, Stores, longest_at}
use Rattle.packet.proofs.LongBuffers.{longer_given}
use Rattle.offering.specs.declared.Slot.{Slot}
use Rattle.offering.specs.declared.Sender.{Sender}
use Rattle.offering.specs.Record.{slot_at, message_of, message_at, in_range, slot_in_range}
use Rattle.offering.specs.Offering.{offer_refusal, offered_slot, offered_sender, offered_stores, long_refusal, offered_long}
use Rattle.offering.proofs.Messages.{message_of_long, message_of-region}
use Rattle.offering.proofs.Ranges.{slot_in_range_facts, facts_slot_in_range, in_range_facts, facts_in_range, slots_in_range-set, slot_in_range-slot_at}
use Rattle.offering.proofs.Offers.{OfferFacts, offer_refusal-zero, long_refusal-zero}
use Rattle.queues.specs.Queues.{Queues, queue_at, offered, offer_queues}
use Rattle.queues.specs.Stands.{Stands}
use Rattle.queues.proofs.Stands.{StandsFor-offered}
use Rattle.queues.proofs.StandsPick.{Stands-set}

-- what was written is there
take-drop_sets : (v l : List ℕ) (i : ℕ) → i + length v ≤ length l → take (length v) (drop i (sets l i v)) ≡ v
take-drop_sets v l i h =
    rw (sets-eq v l i h, append_assoc, drop_at (take i l) (v ++ drop (i + length v) l) i (length-take-le i l (omega arith)))
    (take-append_seam v (drop (i + length v) l))

-- a message that no refusal keeps out, where it lies in what is lent then and the others lie as they did
module _ (s : Sender) (store : Stores) (q : Queues) (h : Stands s store q) (c priority repetition : ℕ) (message : List ℕ)
    (a : OfferFacts s store c priority repetition message) where
  new_slot : Slot
  new_slot = offered_slot (slot_at s c) priority repetition message

  new_slot_in_range : slot_in_range (longest_at store.given c) new_slot ≡ true
  unfolding new_slot offered_slot
  new_slot_in_range =
      facts_slot_in_range new_slot
      (record {
        index = (slot_in_range_facts (slot_at s c) (slot_in_range-slot_at _ s c h.range a.circuit)).index;
        priority = a.priority;
        repetition = a.repetition;
        short = a.message;
        place = omega arith;
        copy = omega arith;
        left = omega arith;
      })

  offered_in_range : in_range store.given (offered_sender s c priority repetition message) ≡ true
  unfolding offered_sender new_slot
  offered_in_range =
      let f = in_range_facts s h.range in
      facts_in_range (offered_sender s c priority repetition message)
      (record {
        count = f.count;
        circuits = f.circuits;
        last = f.last;
        enable = f.enable;
        slots = slots_in_range-set _ s.circuits.count s.slots c new_slot f.slots new_slot_in_range;
      })

  stands_offered : (store' : Stores) → store'.given ≡ store.given → message_of store' c (length message) ≡ message
      → ((i : ℕ) → (i ≡ c → ⊥) → i < s.circuits.count → message_of store' i (slot_at s i).length ≡ message_at s store i)
      → Stands (offered_sender s c priority repetition message) store' (offer_queues q c priority repetition message)
  unfolding offered_sender offered_slot offer_queues new_slot
  stands_offered store' same own others =
      Stands-set s store q h store' c new_slot (offered (queue_at q c) priority repetition message)
      s.last q.last h.last a.circuit (rw same offered_in_range) others
      (rw own
      (StandsFor-offered (get_or s.circuits.list c no_circuit) (slot_at s c) (message_at s store c) (queue_at q c)
      (h.each c a.circuit) a.free priority repetition message))

-- regions: the message begins its own, and the others keep their first bytes
module _ (store : Stores) (c : ℕ) (message : List ℕ) (fits : length message ≤ longest) where
  region_own : c < 4 → 16384 ≤ length store.store → message_of (offered_stores store c message) c (length message) ≡ message
  unfolding offered_stores region longest
  region_own four long = message_of-region _ c (length message) fits ∙ take-drop_sets message store.store (4096 * c) (omega arith)

  region_other : (i n : ℕ) → (i ≡ c → ⊥) → message_of (offered_stores store c message) i n ≡ message_of store i n
  unfolding offered_stores message_of region longest
  region_other i n other = either (ltb 4094 n) refl
    where
      go : (b : Bool) → ltb i c ≡ b → n ≤ 4094 → take n (drop (4096 * i) (sets store.store (4096 * c) message)) ≡ take n (drop (4096 * i) store.store)
      go true e small =
          let before : i < c = ltb-true i c e in
          let e : 4096 * c ≡ 4096 * i + (4096 * c - 4096 * i) = omega arith in
          rw (e, drop_sets_add message (4096 * i) store.store (4096 * c - 4096 * i))
          (take_sets_behind message n (drop (4096 * i) store.store) (4096 * c - 4096 * i) (omega arith))
      go false e small =
          let behind : c ≤ i = ltb-false i c e in
          ap (take n) (drop_sets_before message (4096 * i) store.store (4096 * c) (omega arith))

      either : (b : Bool) → ltb 4094 n ≡ b
          → cond b (take n store.long) (take n (drop (4096 * i) (sets store.store (4096 * c) message)))
          ≡ cond b (take n store.long) (take n (drop (4096 * i) store.store))
      either true e = refl
      either false e = go (ltb i c) refl (ltb-false 4094 n e)

-- an accepted offer
pub stands_offer : (s : Sender) (store : Stores) (q : Queues) → Stands s store q → (c priority repetition : ℕ) (message : List ℕ)
    → offer_refusal s store c priority repetition message ≡ 0
    → Stands (offered_sender s c priority repetition message) (offered_stores store c message) (offer_queues q c priority repetition message)
unfolding offered_stores message_at
stands_offer s store q h c priority repetition message e =
    let f = offer_refusal-zero s store c priority repetition message e in
    let four : c < 4 = omega (arith, f.offer.circuit, (in_range_facts s h.range).count) in
    stands_offered s store q h c priority repetition message f.offer (offered_stores store c message) refl
    (region_own store c message f.short four f.offer.store)
    (λ i other listed. region_other store c message f.short i (slot_at s i).length other)

-- an accepted long offer: the message begins the long buffer, which no other number has, and every region stays
pub stands_long : (s : Sender) (store : Stores) (q : Queues) → Stands s store q → (priority repetition : ℕ) (message : List ℕ)
    → long_refusal s store priority repetition message ≡ 0
    → Stands (offered_sender s 0 priority repetition message) (offered_long store message) (offer_queues q 0 priority repetition message)
unfolding offered_long message_at
stands_long s store q h priority repetition message e =
    let f = long_refusal-zero s store priority repetition message e in
    stands_offered s store q h 0 priority repetition message f.offer (offered_long store message) refl
    (message_of_long _ 0 (length message) f.above ∙ take-drop_sets message store.long 0 (omega (arith, f.place)))
    (λ i other listed.
    let short = shorter_elsewhere store.given i (slot_at s i).length other (slot_in_range_facts (slot_at s i) (slot_in_range-slot_at _ s i h.range listed)).short in
    message_of-region _ i (slot_at s i).length short ∙ sym (message_of-region store i (slot_at s i).length short))
  where
    -- only number 0 has messages that are longer
    shorter_elsewhere : (given : Bool) (i n : ℕ) → (i ≡ 0 → ⊥) → n ≤ longest_at given i → n ≤ longest
    shorter_elsewhere given i n other most = go (ltb longest n) refl
      where
        go : (b : Bool) → ltb longest n ≡ b → n ≤ longest
        go true t = absurd (other (longer_given given i n most (ltb-true longest n t)).1)
        go false t = ltb-false longest n t
