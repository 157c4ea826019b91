-- Offering a message (document 01, "Calls and their refusals"), and a long one at circuit 0 (document 02, ask 7).
use Rattle.std.specs.Prelude.{ℕ, ◌*◌, cond, not, ◌||◌, List, length, set, leb, ltb, eqb}
use Rattle.std.proofs.lemmas.List.Edits.{sets}
use Rattle.packet.specs.Messages.{longest, longest_long, packets}
use Rattle.packet.specs.Stores.{region, Stores, stores, long_short}
use Rattle.offering.specs.declared.Slot.{Slot}
use Rattle.offering.specs.declared.Sender.{Sender}
use Rattle.offering.specs.Record.{store_length, slot_at, pending, in_range}

-- the refusal of an offer, the first that holds in the order of document 01, with "19 .. after 5" (document 02, ask 7); 0 if it is accepted
unfoldable pub offer_refusal : Sender → Stores → ℕ → ℕ → ℕ → List ℕ → ℕ
offer_refusal s l c priority repetition message =
    cond (not (in_range l.given s)) 14
    (cond (ltb (length l.store) store_length) 5
    (cond (long_short l) 19
    (cond (not (ltb c s.circuits.count)) 6
    (cond (ltb 3 priority) 7
    (cond (ltb 5 repetition) 8
    (cond (ltb longest (length message)) 9
    (cond (pending (slot_at s c)) 10 0)))))))

-- the refusal of what is offered to a sender for n circuits, by 5 to 9 or 19; 0 if none of these holds
unfoldable pub bounds_refusal : Stores → ℕ → ℕ → ℕ → ℕ → List ℕ → ℕ
bounds_refusal l n c priority repetition message =
    cond (ltb (length l.store) store_length) 5
    (cond (long_short l) 19
    (cond (not (ltb c n)) 6
    (cond (ltb 3 priority) 7
    (cond (ltb 5 repetition) 8
    (cond (ltb longest (length message)) 9 0)))))

-- a circuit's slot with a message: all copies of all its packets wait, so that all its packets are still to go
unfoldable pub offered_slot : Slot → ℕ → ℕ → List ℕ → Slot
offered_slot t priority repetition message =
    record {
      index = t.index;
      priority = priority;
      repetition = repetition;
      copy = 0;
      length = length message;
      place = 0;
      left = packets (length message);
    }

-- the record after an accepted offer
unfoldable pub offered_sender : Sender → ℕ → ℕ → ℕ → List ℕ → Sender
offered_sender s c priority repetition message =
    record {
      circuits = s.circuits;
      slots = set s.slots c (offered_slot (slot_at s c) priority repetition message);
      last = s.last;
      enable = s.enable;
    }

-- "An accepted offer copies its message to the start of the region and writes nothing else"
unfoldable pub offered_stores : Stores → ℕ → List ℕ → Stores
offered_stores l c message = stores (sets l.store (region * c) message) l.given l.long

-- "All refusals return .. the record given, and leave every lent byte unchanged"
unfoldable pub sender_after_offer : Sender → Stores → ℕ → ℕ → ℕ → List ℕ → Sender
sender_after_offer s l c priority repetition message =
    cond (eqb (offer_refusal s l c priority repetition message) 0) (offered_sender s c priority repetition message) s

unfoldable pub stores_after_offer : Sender → Stores → ℕ → ℕ → ℕ → List ℕ → Stores
stores_after_offer s l c priority repetition message =
    cond (eqb (offer_refusal s l c priority repetition message) 0) (offered_stores l c message) l

-- ---- long offers

-- the refusal of a long offer: "The new call checks in 01's offering order"; "18 length outside 4,095 to 65,535, in place of 9". It has no circuit
-- number, so 6 says that no circuit is listed; and where no long buffer is given, there is none that is long enough
unfoldable pub long_refusal : Sender → Stores → ℕ → ℕ → List ℕ → ℕ
long_refusal s l priority repetition message =
    cond (not (in_range l.given s)) 14
    (cond (ltb (length l.store) store_length) 5
    (cond (not l.given || long_short l) 19
    (cond (eqb s.circuits.count 0) 6
    (cond (ltb 3 priority) 7
    (cond (ltb 5 repetition) 8
    (cond (leb (length message) longest || ltb longest_long (length message)) 18
    (cond (pending (slot_at s 0)) 10 0)))))))

-- the refusal of what is offered as a long message to a sender for n circuits, by 5 to 8, 18 or 19; 0 if none of these holds
unfoldable pub long_bounds_refusal : Stores → ℕ → ℕ → ℕ → List ℕ → ℕ
long_bounds_refusal l n priority repetition message =
    cond (ltb (length l.store) store_length) 5
    (cond (not l.given || long_short l) 19
    (cond (eqb n 0) 6
    (cond (ltb 3 priority) 7
    (cond (ltb 5 repetition) 8
    (cond (leb (length message) longest || ltb longest_long (length message)) 18 0)))))

-- an accepted one writes its message to the start of the buffer, and nothing else
unfoldable pub offered_long : Stores → List ℕ → Stores
offered_long l message = stores l.store l.given (sets l.long 0 message)

unfoldable pub sender_after_long : Sender → Stores → ℕ → ℕ → List ℕ → Sender
sender_after_long s l priority repetition message =
    cond (eqb (long_refusal s l priority repetition message) 0) (offered_sender s 0 priority repetition message) s

unfoldable pub stores_after_long : Sender → Stores → ℕ → ℕ → List ℕ → Stores
stores_after_long s l priority repetition message =
    cond (eqb (long_refusal s l priority repetition message) 0) (offered_long l message) l
