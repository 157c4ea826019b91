-- One circuit, whose slot and message stand for its queue: the queue's first copy is the one that the slot tells, the slot advanced stands for
-- the queue without it, and an offer where nothing waits for the queue with the message's copies.
use Prim.Native.Nat.{ℕ, zero, suc, ◌-◌, ◌*◌, ◌%◌, ◌≤◌, ◌<◌}
use native.Mathlib.Omega.{arith}
use native.Mathlib.Nat.{zero-mul, suc-mul, add_comm, sub-zero}
use native.Mathlib.Numerals.{add-one}
use mathlib.Core.Bool.{Bool, true, false, ◌&&◌}
use mathlib.Core.List.{List, [], ◌∷◌, ◌++◌}
use mathlib.Core.Path.{◌≡◌, refl, sym, ap, ap₂, ◌∙◌}
use lib.ListN.{length, drop, replicate, length-append, length-replicate, length-drop}
use lib.Seq.{drop_at, drop-nil}
use lib.Dec.{ltb, eqb}
use borrow.Author.Tests.{ltb-false}
use Rattle.packet.specs.declared.Circuit.{Circuit}
use Rattle.packet.specs.Messages.{longest_long, packets, link_of, segment}
use Rattle.packet.specs.Packets.{packet_of}
use Rattle.offering.specs.declared.Slot.{Slot}
use Rattle.offering.specs.Record.{pending, slot_in_range}
use Rattle.offering.specs.Offering.{offered_slot}
use Rattle.picking.specs.Picking.{advanced, copies_waiting}
use Rattle.picking.proofs.PickingLaws.{SlotPending, slot_pending}
use Rattle.queues.specs.Queues.{Copy, Queue, copy_of, copies_from, message_copies, message_for, offered, some_waits, front_has, behind_first, behind}
use Rattle.queues.specs.Stands.{StandsFor}
use Rattle.queues.proofs.Queues.{behind_first_cons, cons_behind_first}

-- the first of some alike, and what is behind it
drop-alike : {A : Type 0} (copy repetition : ℕ) (x : A) (rest : List A) → copy ≤ repetition
    → drop copy (replicate (suc repetition) x ++ rest) ≡ x ∷ drop (suc copy) (replicate (suc repetition) x ++ rest)
drop-alike zero repetition x rest h = refl
drop-alike (suc copy) zero x rest h = absurd (omega arith)
drop-alike (suc copy) (suc repetition) x rest h = drop-alike copy repetition x rest (omega arith)

drop_all_alike : {A : Type 0} (copy repetition : ℕ) (x : A) (rest : List A) → copy ≡ repetition
    → drop (suc copy) (replicate (suc repetition) x ++ rest) ≡ rest
drop_all_alike copy repetition x rest e =
    rw e (drop_at (replicate repetition x) rest repetition (length-replicate repetition x))

-- one packet and those behind it
copies_from-suc : (k : Circuit) (priority : ℕ) (text : List ℕ) (times number i n : ℕ) → i < n
    → copies_from k priority text times number i (n - i)
    ≡ replicate times (copy_of k priority text number i) ++ copies_from k priority text times (suc number) (suc i) (n - suc i)
unfolding copies_from
copies_from-suc k priority text times number i n h =
    let e : n - i ≡ suc (n - suc i) = omega arith in
    rw e

length-copies_from : (k : Circuit) (priority : ℕ) (text : List ℕ) (times number i n : ℕ)
    → length (copies_from k priority text times number i n) ≡ n * times
unfolding copies_from
length-copies_from k priority text times number i zero = sym (zero-mul times)
length-copies_from k priority text times number i (suc n) =
    rw (length-append, length-replicate, length-copies_from k priority text times (suc number) (suc i) n, suc-mul) (add_comm times (n * times))

module _ (k : Circuit) (t : Slot) (text : List ℕ) (q : Queue) (h : StandsFor k t text q) where
  -- the copies of the packets from i on, the first with number d
  onward : ℕ → ℕ → List Copy
  onward d i = copies_from k t.priority text (suc t.repetition) d i (packets t.length - i)

  -- the first copy that waits, where one does
  first_copy : Copy
  first_copy = copy_of k t.priority text h.done t.place

  -- the copies of the packet that is next, and those behind them
  onward_suc : SlotPending t → onward h.done t.place ≡ replicate (suc t.repetition) first_copy ++ onward (suc h.done) (suc t.place)
  unfolding onward first_copy
  onward_suc p = copies_from-suc k t.priority text (suc t.repetition) h.done t.place (packets t.length) p.pending

  copies_pending : SlotPending t → q.copies ≡ first_copy ∷ drop (suc t.copy) (onward h.done t.place)
  unfolding onward
  copies_pending p =
      h.copies
      ∙ rw (onward_suc p) (drop-alike t.copy t.repetition first_copy (onward (suc h.done) (suc t.place)) p.in_range.copy)

  -- the first copy is the packet that the slot tells
  pub StandsFor_first : SlotPending t
      → q.copies
      ≡ record {
        packet = packet_of k (link_of t.place (packets t.length)) t.index t.priority (segment text t.place);
        number = h.done;
        priority = t.priority;
      }
      ∷ behind_first q.copies
  unfolding first_copy copy_of
  StandsFor_first p =
      cons_behind_first q.copies first_copy (drop (suc t.copy) (onward h.done t.place)) (copies_pending p)
      ∙ ap₂ (λ n i. told n i ∷ behind_first q.copies) h.message (sym h.index)
    where
      told : ℕ → ℕ → Copy
      told n i =
          record {
            packet = packet_of k (link_of t.place (packets n)) i t.priority (segment text t.place);
            number = h.done;
            priority = t.priority;
          }

  -- none waits unless a message is pending
  copies_none : pending t ≡ false → q.copies ≡ []
  unfolding pending copies_from
  copies_none e =
      let none : packets t.length - t.place ≡ 0 = omega (arith, ltb-false t.place (packets t.length) e) in
      h.copies ∙ rw none (drop-nil t.copy)

  pub StandsFor-pending : slot_in_range longest_long t ≡ true → pending t ≡ some_waits q.copies
  unfolding some_waits
  StandsFor-pending e = go (pending t) refl
    where
      go : (b : Bool) → pending t ≡ b → pending t ≡ some_waits q.copies
      go true p = rw (copies_pending (slot_pending t e p), p)
      go false p = rw (copies_none p, p)

  pub StandsFor-front_has : slot_in_range longest_long t ≡ true → (priority : ℕ) → front_has priority q.copies ≡ (pending t && eqb t.priority priority)
  unfolding front_has first_copy copy_of
  StandsFor-front_has e priority = go (pending t) refl
    where
      go : (b : Bool) → pending t ≡ b → front_has priority q.copies ≡ (pending t && eqb t.priority priority)
      go true p = rw (copies_pending (slot_pending t e p), p)
      go false p = rw (copies_none p, p)

  -- as many copies wait as the slot tells
  pub StandsFor-copies_waiting : length q.copies ≡ copies_waiting t
  unfolding copies_waiting
  StandsFor-copies_waiting = ap length h.copies ∙ rw (length-drop, length-copies_from, add-one)

  -- an offer where nothing waits: the slot stands for the queue with the message's copies
  pub StandsFor-offered : pending t ≡ false → (priority repetition : ℕ) (message : List ℕ)
      → StandsFor k (offered_slot t priority repetition message) message (offered q priority repetition message)
  unfolding offered_slot offered message_for message_copies pending
  StandsFor-offered e priority repetition message =
      let none : packets t.length - t.place ≡ 0 = omega (arith, ltb-false t.place (packets t.length) e) in
      record {
        done = q.sent;
        circuit = h.circuit;
        message = refl;
        index = h.index ∙ ap (λ n. n % 8) (omega (arith, h.sent));
        sent = omega arith;
        copies = rw (copies_none e, h.circuit, sub-zero);
      }

  -- the slot advanced stands for the queue without its first copy
  pub StandsFor-advanced : SlotPending t → StandsFor k (advanced t) text (behind q)
  unfolding advanced onward behind
  StandsFor-advanced p = go (ltb t.copy t.repetition) refl
    where
      rest : behind_first q.copies ≡ drop (suc t.copy) (onward h.done t.place)
      rest = behind_first_cons q.copies first_copy (drop (suc t.copy) (onward h.done t.place)) (copies_pending p)

      go : (b : Bool) → ltb t.copy t.repetition ≡ b → StandsFor k (advanced t) text (behind q)
      go true e =
          rw (e, advanced)
          (record {
            done = h.done;
            circuit = h.circuit;
            message = h.message;
            index = h.index;
            sent = h.sent;
            copies = rest ∙ ap (λ n. drop n (onward h.done t.place)) (sym (add-one t.copy));
          })
      go false e =
          let all : t.copy ≡ t.repetition = omega (arith, ltb-false t.copy t.repetition e, p.in_range.copy) in
          rw (e, advanced)
          (record {
            done = suc h.done;
            circuit = h.circuit;
            message = h.message;
            index = omega (arith, h.index);
            sent = omega (arith, h.sent, p.pending);
            copies =
                rest
                ∙ ap (drop (suc t.copy)) (onward_suc p)
                ∙ drop_all_alike t.copy t.repetition first_copy (onward (suc h.done) (suc t.place)) all
                ∙ ap (onward (suc h.done)) (sym (add-one t.place));
          })
