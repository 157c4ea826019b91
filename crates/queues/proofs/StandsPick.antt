-- Record and store stand for queues: then both sides pick the same circuit, its first copy is the record's next packet, and the record after
-- serving it stands for the queues without that copy.
use Prim.Native.Nat.{ℕ, ◌≤◌, ◌<◌}
use native.Mathlib.Omega.{arith}
use mathlib.Core.Bool.{Bool, true, false}
use mathlib.Core.List.{List, [], ◌∷◌}
use Rattle.std.proofs.Common.{Some}
use mathlib.Core.Path.{◌≡◌, refl, sym, ap, ◌∙◌}
use lib.ListN.{length, get_or, set, length-set, get_or-eq_default}
use lib.Seq.{get_or-set_same, get_or-set_other}
use lib.Dec.{ltb, eqb}
use borrow.Author.Tests.{ltb-true, ltb-false, eqb-true, eqb-false}
use Rattle.packet.specs.Circuits.{no_circuit}
use Rattle.packet.specs.Stores.{Stores}
use Rattle.offering.specs.declared.Slot.{Slot}
use Rattle.offering.specs.declared.Sender.{Sender}
use Rattle.offering.specs.Record.{no_slot, slot_at, message_of, message_at, pending, in_range}
use Rattle.offering.proofs.Ranges.{in_range_facts, slot_in_range-wide}
use Rattle.picking.specs.Picking.{waits_at, going_round, first_waiting, pick_from, pick, advanced, served}
use Rattle.picking.proofs.PickingLaws.{Picked, SlotPending, slot_pending, pick_waits, served_in_range}
use Rattle.writing.specs.PacketParts.{packet_at}
use Rattle.writing.specs.NextFrame.{next_packet}
use Rattle.queues.specs.Queues.{Queue, Queues, fresh_queue, queue_at, some_waits, front_has, first_queue, pick_queue_from, pick_queue, behind_first, behind, serve_queues}
use Rattle.queues.specs.Stands.{StandsFor, Stands}
use Rattle.queues.proofs.Stands.{StandsFor-pending, StandsFor-front_has, StandsFor_first, StandsFor-advanced}

-- the message stays
length-advanced : (t : Slot) → (advanced t).length ≡ t.length
unfolding advanced
length-advanced t = go (ltb t.copy t.repetition) refl
  where
    go : (b : Bool) → ltb t.copy t.repetition ≡ b → (advanced t).length ≡ t.length
    go true e = rw (e, advanced)
    go false e = rw (e, advanced)

module _ (s : Sender) (store : Stores) (q : Queues) (h : Stands s store q) where
  -- an earlier message has a copy to place if one waits in the queue
  pub stands_pending : (c : ℕ) → c < s.circuits.count → pending (slot_at s c) ≡ some_waits (queue_at q c).copies
  stands_pending c listed =
      StandsFor-pending (get_or s.circuits.list c no_circuit) (slot_at s c) (message_at s store c) (queue_at q c) (h.each c listed)
      (slot_in_range-wide _ s c h.range listed)

  -- a number that is not listed has nothing to send on either side
  front_has_unlisted : (priority c : ℕ) → s.circuits.count ≤ c → front_has priority (queue_at q c).copies ≡ false
  unfolding queue_at fresh_queue front_has
  front_has_unlisted priority c e =
      let out : length q.queues ≤ c = omega (arith, h.count) in
      rw (get_or-eq_default q.queues (fresh_queue no_circuit) out)

  waits_at-front_has : (priority c : ℕ) → waits_at s priority c ≡ front_has priority (queue_at q c).copies
  unfolding waits_at
  waits_at-front_has priority c = go (ltb c s.circuits.count) refl
    where
      go : (b : Bool) → ltb c s.circuits.count ≡ b → waits_at s priority c ≡ front_has priority (queue_at q c).copies
      go true e =
          let listed : c < s.circuits.count = ltb-true c s.circuits.count e in
          rw (e, waits_at)
          (sym
          (StandsFor-front_has (get_or s.circuits.list c no_circuit) (slot_at s c) (message_at s store c) (queue_at q c) (h.each c listed)
          (slot_in_range-wide _ s c h.range listed) priority))
      go false e = rw (e, waits_at) (sym (front_has_unlisted priority c (ltb-false c s.circuits.count e)))

  first_waiting-first_queue : (priority : ℕ) (cs : List ℕ) → first_waiting s priority cs ≡ first_queue q priority cs
  unfolding first_waiting first_queue
  first_waiting-first_queue priority [] = refl
  first_waiting-first_queue priority (c ∷ cs) = rw (waits_at-front_has priority c, first_waiting-first_queue priority cs)

  pick_from-pick_queue_from : (enable : ℕ) (ps : List ℕ) → pick_from s enable ps ≡ pick_queue_from q enable ps
  unfolding pick_from pick_queue_from
  pick_from-pick_queue_from enable [] = refl
  pick_from-pick_queue_from enable (p ∷ ps) =
      rw (first_waiting-first_queue p (going_round s.last), pick_from-pick_queue_from enable ps, ← h.last)

  -- both sides pick the same circuit
  pub stands_pick : (enable : ℕ) → pick s enable ≡ pick_queue q enable
  unfolding pick pick_queue
  stands_pick enable = pick_from-pick_queue_from enable (3 ∷ 2 ∷ 1 ∷ 0 ∷ [])

  -- the record with another slot at a listed number c stands for the queues with another queue there
  pub Stands-set : (store' : Stores) (c : ℕ) (t : Slot) (p : Queue) (last last' : ℕ) → last' ≡ last → c < s.circuits.count
      → in_range store'.given (record { circuits = s.circuits; slots = set s.slots c t; last = last; enable = s.enable }) ≡ true
      → ((i : ℕ) → (i ≡ c → ⊥) → i < s.circuits.count
      → message_of store' i (slot_at s i).length ≡ message_at s store i)
      → StandsFor (get_or s.circuits.list c no_circuit) t (message_of store' c t.length) p
      → Stands (record { circuits = s.circuits; slots = set s.slots c t; last = last; enable = s.enable }) store'
      (record { queues = set q.queues c p; last = last'; enable = q.enable })
  unfolding slot_at message_at queue_at
  Stands-set store' c t p last last' same listed range others here =
      record {
        range = range;
        places = h.places;
        slots = length-set s.slots c t ∙ h.slots;
        count = length-set q.queues c p ∙ h.count;
        last = same;
        enable = h.enable;
        each = λ i e. go i e (eqb i c) refl;
      }
    where
      four : c < length s.slots
      four = omega (arith, listed, h.slots, (in_range_facts s h.range).count)

      held : c < length q.queues
      held = omega (arith, listed, h.count)

      At : ℕ → Slot → Queue → Type 0
      At i x y = StandsFor (get_or s.circuits.list i no_circuit) x (message_of store' i x.length) y

      go : (i : ℕ) → i < s.circuits.count → (b : Bool) → eqb i c ≡ b
          → At i (get_or (set s.slots c t) i no_slot) (get_or (set q.queues c p) i (fresh_queue no_circuit))
      go i e true same =
          rw (eqb-true i c same, get_or-set_same s.slots c t no_slot four, get_or-set_same q.queues c p (fresh_queue no_circuit) held) here
      go i e false other =
          let apart : i ≡ c → ⊥ = eqb-false i c other in
          rw (
            get_or-set_other s.slots c i t no_slot apart,
            get_or-set_other q.queues c i p (fresh_queue no_circuit) apart,
            others i apart e,
          )
          (h.each i e)

  module _ (enable c : ℕ) (e : pick s enable ≡ Some c) where
    picked : Picked s enable c
    picked = pick_waits s enable c e

    pub stood : StandsFor (get_or s.circuits.list c no_circuit) (slot_at s c) (message_at s store c) (queue_at q c)
    stood = h.each c picked.count

    due : SlotPending (slot_at s c)
    due = slot_pending (slot_at s c) (slot_in_range-wide _ s c h.range picked.count) picked.pending

    -- the first copy waiting at the circuit picked is the record's next packet
    pub stands_first : (queue_at q c).copies
        ≡ record { packet = next_packet s store c; number = stood.done; priority = (slot_at s c).priority }
        ∷ behind_first (queue_at q c).copies
    unfolding next_packet packet_at
    stands_first = StandsFor_first (get_or s.circuits.list c no_circuit) (slot_at s c) (message_at s store c) (queue_at q c) stood due

    -- and it "waits no more"
    pub stands_serve : Stands (served s c) store (serve_queues q c)
    unfolding served serve_queues message_at
    stands_serve =
        let same : message_of store c (advanced (slot_at s c)).length ≡ message_at s store c = ap (message_of store c) (length-advanced (slot_at s c)) in
        Stands-set store c (advanced (slot_at s c)) (behind (queue_at q c)) c c refl picked.count
        (served_in_range _ s enable c h.range e) (λ i other listed. refl)
        (rw same (StandsFor-advanced (get_or s.circuits.list c no_circuit) (slot_at s c) (message_at s store c) (queue_at q c) stood due))
