-- The packets still to go are those of which copies wait in the queue: a slot in range has as many left as its message has from `place` on, and each of
-- these has a copy there. A number that is not listed has a slot that no call changes, and no queue.
use Prim.Native.Nat.{ℕ, zero, suc, ◌+◌, ◌-◌, ◌≤◌, ◌<◌}
use native.Mathlib.Omega.{arith}
use mathlib.Core.Bool.{Bool, true, false, cond, not}
use mathlib.Core.List.{List, [], ◌∷◌, ◌++◌}
use mathlib.Core.Path.{◌≡◌, refl, sym, ap, ◌∙◌}
use lib.ListN.{length, drop, get_or, set, replicate, get_or-eq_default}
use lib.Seq.{drop-nil, get_or-set_other}
use lib.Dec.{ltb, eqb}
use borrow.Author.Tests.{ltb-true, ltb-false, eqb-true, eq-eqb}
use Rattle.packet.specs.declared.Circuit.{Circuit}
use Rattle.packet.specs.declared.Circuits.{Circuits}
use Rattle.packet.specs.Circuits.{listing, no_circuit}
use Rattle.packet.specs.Lists.{those}
use Rattle.packet.specs.Messages.{longest_long, packets}
use Rattle.packet.specs.Stores.{Stores}
use Rattle.offering.specs.declared.Slot.{Slot}
use Rattle.offering.specs.declared.Sender.{Sender}
use Rattle.offering.specs.Record.{fresh_slot, fresh, no_slot, slot_at, slot_in_range}
use Rattle.offering.specs.Offering.{offer_refusal, long_refusal, sender_after_long, offered_sender, sender_after_offer}
use Rattle.offering.proofs.Ranges.{slot_in_range_facts, slot_in_range-wide}
use Rattle.offering.proofs.Offers.{offer_refusal-zero, long_refusal-zero}
use Rattle.picking.specs.Picking.{pick, advanced, served}
use Rattle.picking.proofs.PickingLaws.{pick_waits}
use Rattle.writing.specs.NextFrame.{next_frame}
use Rattle.sender.specs.Blocks.{Filled, full, and_then, fill, fill_up, system_packets, enable_bits, ruled, block_filled, block_refusal, sender_after_block}
use Rattle.sender.proofs.Filling.{placing_cases}
use Rattle.queues.specs.Queues.{Copy, Queue, Queues, fresh_queue, queue_at, copy_of, copies_from}
use Rattle.queues.specs.Calls.{Call, offer, offer_long, block, End, fresh_end, after_call, after_calls, queues_after_calls}
use Rattle.queues.specs.Stands.{StandsFor, Stands}
use Rattle.queues.specs.Sent.{each_once}
use Rattle.queues.specs.PacketsLeft.{LeftCounts, LeftStands}
use Rattle.queues.proofs.Numbers.{numbers_from, length_numbers_from, lower_numbers_from}
use Rattle.queues.proofs.StandsCalls.{stands_queues}

-- ---- a queue

-- behind one of copies that are alike, the others give no other number
pub others_alike : (n : ℕ) (x : Copy) (rest : List Copy) → those (λ i. not (eqb i x.number)) (each_once rest) ≡ each_once rest
    → those (λ i. not (eqb i x.number)) (each_once (replicate n x ++ rest)) ≡ each_once rest
unfolding each_once those
others_alike zero x rest none = none
others_alike (suc n) x rest none = rw (others_alike n x rest none, eq-eqb x.number x.number refl) none

-- so they are of one packet, also where some of them are placed, but not the last
each_once-alike : (copy repetition : ℕ) (x : Copy) (rest : List Copy) → copy ≤ repetition
    → those (λ i. not (eqb i x.number)) (each_once rest) ≡ each_once rest
    → each_once (drop copy (replicate (suc repetition) x ++ rest)) ≡ x.number ∷ each_once rest
unfolding each_once
each_once-alike zero repetition x rest h none = ap (λ l. x.number ∷ l) (others_alike repetition x rest none)
each_once-alike (suc copy) zero x rest h none = absurd (omega arith)
each_once-alike (suc copy) (suc repetition) x rest h none = each_once-alike copy repetition x rest (omega arith) none

-- n packets of which copies wait have n numbers, also where some copies of the first are placed
each_once-waiting : (k : Circuit) (priority : ℕ) (text : List ℕ) (copy repetition number i n : ℕ) → copy ≤ repetition
    → each_once (drop copy (copies_from k priority text (suc repetition) number i n)) ≡ numbers_from number n
unfolding copies_from copy_of each_once numbers_from
each_once-waiting k priority text copy repetition number i zero h = ap each_once (drop-nil copy)
each_once-waiting k priority text copy repetition number i (suc n) h =
    let rest = copies_from k priority text (suc repetition) (suc number) (suc i) n in
    let later : each_once rest ≡ numbers_from (suc number) n = each_once-waiting k priority text 0 repetition (suc number) (suc i) n (omega arith) in
    each_once-alike copy repetition (copy_of k priority text number i) rest h (rw later (lower_numbers_from number (suc number) n (omega arith)))
    ∙ ap (λ l. number ∷ l) later

-- a slot in range that stands for a queue
StandsFor_left : (k : Circuit) (t : Slot) (text : List ℕ) (q : Queue) → StandsFor k t text q → slot_in_range longest_long t ≡ true
    → t.left ≡ length (each_once q.copies)
StandsFor_left k t text q h range =
    let f = slot_in_range_facts t range in
    let n : ℕ = packets t.length - t.place in
    f.left
    ∙ sym (length_numbers_from h.done n)
    ∙ ap length (sym (each_once-waiting k t.priority text t.copy t.repetition h.done t.place n f.copy))
    ∙ ap (λ copies. length (each_once copies)) (sym h.copies)

-- so it is at each listed number of a record that stands for queues
pub left-stands : LeftStands
unfolding LeftStands
left-stands s store q h c listed =
    StandsFor_left _ (slot_at s c) _ (queue_at q c) (h.each c listed) (slot_in_range-wide _ s c h.range listed)

-- ---- a number that is not listed

-- from record s to record r the circuits stay, and so does the slot of number c, if it is not listed
record UnlistedKept (c : ℕ) (s r : Sender) : Type 0 where
  pub circuits : r.circuits ≡ s.circuits
  pub slot : s.circuits.count ≤ c → slot_at r c ≡ slot_at s c

module _ (c : ℕ) where
  kept_refl : (s : Sender) → UnlistedKept c s s
  kept_refl s = record { circuits = refl; slot = λ out. refl }

  -- where the slot of a listed number changes, that of one that is not listed stays
  kept_set : (s : Sender) (d : ℕ) (t : Slot) → d < s.circuits.count → s.circuits.count ≤ c → get_or (set s.slots d t) c no_slot ≡ slot_at s c
  unfolding slot_at
  kept_set s d t listed out = get_or-set_other s.slots d c t no_slot (omega arith)

  kept-fill : (n : ℕ) (s : Sender) (store : Stores) (at enable u : ℕ) → UnlistedKept c s (fill n s store at enable u).sender
  unfolding fill full and_then served slot_at
  kept-fill zero s store at enable u = kept_refl s
  kept-fill (suc n) s store at enable u =
      placing_cases (λ (f : Filled). UnlistedKept c s f.sender) (pick s enable) s store at u
      (λ d. fill n (served s d) store (at + length (next_frame s store d)) enable u) (kept_refl s)
      (λ d p h.
      let later = kept-fill n (served s d) store (at + length (next_frame s store d)) enable u in
      record {
        circuits = later.circuits;
        slot = λ out. later.slot out ∙ kept_set s d (advanced (slot_at s d)) (pick_waits s enable d p).count out;
      })

  kept_call : (call : Call) (e : End) → UnlistedKept c e.sender (after_call e call).sender
  unfolding after_call sender_after_offer sender_after_long offered_sender sender_after_block block_filled fill_up ruled slot_at
  kept_call (offer d priority repetition message) e = go (eqb (offer_refusal e.sender e.store d priority repetition message) 0) refl
    where
      go : (b : Bool) → eqb (offer_refusal e.sender e.store d priority repetition message) 0 ≡ b
          → UnlistedKept c e.sender (cond b (offered_sender e.sender d priority repetition message) e.sender)
      go true z =
          let f = offer_refusal-zero e.sender e.store d priority repetition message (eqb-true _ 0 z) in
          record { circuits = refl; slot = kept_set e.sender d _ f.offer.circuit }
      go false z = kept_refl e.sender
  kept_call (offer_long priority repetition message) e = go (eqb (long_refusal e.sender e.store priority repetition message) 0) refl
    where
      go : (b : Bool) → eqb (long_refusal e.sender e.store priority repetition message) 0 ≡ b
          → UnlistedKept c e.sender (cond b (offered_sender e.sender 0 priority repetition message) e.sender)
      go true z =
          let f = long_refusal-zero e.sender e.store priority repetition message (eqb-true _ 0 z) in
          record { circuits = refl; slot = kept_set e.sender 0 _ f.offer.circuit }
      go false z = kept_refl e.sender
  kept_call (block n u buffer y) e = go (eqb (block_refusal e.sender e.store buffer n u y) 0)
    where
      go : (b : Bool) → UnlistedKept c e.sender (cond b (block_filled e.sender e.store u (system_packets y) (enable_bits y)).sender e.sender)
      go true =
          let filled = kept-fill _ (ruled e.sender (enable_bits y)) e.store _ _ u in
          record { circuits = filled.circuits; slot = filled.slot }
      go false = kept_refl e.sender

  kept_calls : (calls : List Call) (e : End) → UnlistedKept c e.sender (after_calls e calls).sender
  unfolding after_calls
  kept_calls [] e = kept_refl e.sender
  kept_calls (call ∷ calls) e =
      let first = kept_call call e in
      let later = kept_calls calls (after_call e call) in
      record {
        circuits = later.circuits ∙ first.circuits;
        slot = λ out. later.slot (rw first.circuits out) ∙ first.slot out;
      }

-- nothing is left in a fresh record
left_fresh : (cs : Circuits) (c : ℕ) → (slot_at (fresh cs) c).left ≡ 0
unfolding fresh fresh_slot no_slot slot_at
left_fresh cs zero = refl
left_fresh cs (suc zero) = refl
left_fresh cs (suc (suc zero)) = refl
left_fresh cs (suc (suc (suc zero))) = refl
left_fresh cs (suc (suc (suc (suc c)))) = refl

-- ---- after any calls

module _ (bytes : List ℕ) (store : Stores) (calls : List Call) where
  s : Sender
  s = (after_calls (fresh_end bytes store) calls).sender

  q : Queues
  q = queues_after_calls bytes store calls

  stands : Stands s (after_calls (fresh_end bytes store) calls).store q
  unfolding s q
  stands = stands_queues bytes store calls

  left_unlisted : (c : ℕ) → s.circuits.count ≤ c → (slot_at s c).left ≡ length (each_once (queue_at q c).copies)
  unfolding s each_once queue_at fresh_queue
  left_unlisted c out =
      let stayed = kept_calls c calls (fresh_end bytes store) in
      let same : slot_at s c ≡ slot_at (fresh (listing bytes)) c = stayed.slot (rw stayed.circuits at out) in
      let none : queue_at q c ≡ fresh_queue no_circuit = get_or-eq_default q.queues (fresh_queue no_circuit) (omega (arith, stands.count, out)) in
      ap (λ (t : Slot). t.left) same ∙ left_fresh (listing bytes) c ∙ ap (λ (r : Queue). length (each_once r.copies)) (sym none)

pub left-counts : LeftCounts
unfolding LeftCounts LeftStands s q
left-counts bytes store calls c = go (ltb c (s bytes store calls).circuits.count) refl
  where
    go : (b : Bool) → ltb c (s bytes store calls).circuits.count ≡ b
        → (slot_at (s bytes store calls) c).left ≡ length (each_once (queue_at (q bytes store calls) c).copies)
    go true e = left-stands _ _ _ (stands bytes store calls) c (ltb-true c _ e)
    go false e = left_unlisted bytes store calls c (ltb-false c _ e)
