-- Picking and serving: what is known of the circuit that is picked; that it is the one of the highest rank; and that serving it
-- leaves a record in range with one copy less to place.
use Rattle.std.proofs.Common.{◌≡◌, ℕ, zero, suc, ◌+◌, ◌-◌, ◌*◌, ◌%◌, ◌<◌, ◌≤◌, Bool, true, false, cond, eqb, ltb, List, [], ◌∷◌, Option, None, Some, refl, ap, ◌∙◌, suc-mul, arith, ltb-false, ltb-true, le-ltb, lt-ltb, eq-eqb, eqb-true}
use borrow.Author.Tests.{eqb-false}
use Rattle.packet.specs.Messages.{longest_long, packets}
use Rattle.offering.specs.declared.Slot.{Slot}
use Rattle.offering.specs.declared.Sender.{Sender}
use Rattle.packet.specs.Stores.{longest_at}
use Rattle.offering.specs.Record.{slot_at, pending, slot_in_range, in_range}
use Rattle.offering.proofs.Ranges.{and_elim, SlotFacts, slot_in_range_facts, facts_slot_in_range, in_range_facts, facts_in_range, slots_in_range-set, slot_in_range-slot_at}
use Rattle.picking.specs.Picking.{enabled, waits_at, going_round, first_waiting, or_else, pick_from, pick, copy_placed, packet_placed, advanced, served, copies_waiting}
use Rattle.picking.specs.Picked.{waits_enabled, rank}

-- ---- the circuit that is picked

-- a copy of this priority waits at this circuit number
record Waits (s : Sender) (p c : ℕ) : Type 0 where
  pub count : c < s.circuits.count
  pub pending : pending (slot_at s c) ≡ true
  pub priority : (slot_at s c).priority ≡ p

waits_at_facts : (s : Sender) (p c : ℕ) → waits_at s p c ≡ true → Waits s p c
unfolding waits_at
waits_at_facts s p c e =
    let (e₂, priority) = and_elim _ _ e in
    let (count, pending) = and_elim _ _ e₂ in
    record { count = ltb-true _ _ count; pending = pending; priority = eqb-true _ _ priority }

first_waiting_waits : (s : Sender) (p : ℕ) (cs : List ℕ) (c : ℕ) → first_waiting s p cs ≡ Some c → Waits s p c
unfolding first_waiting
first_waiting_waits s p [] c e = absurd (let z : ◌≡◌ {A = ℕ} 0 1 = cc in omega arith)
first_waiting_waits s p (d ∷ cs) c e = go (waits_at s p d) refl e (first_waiting_waits s p cs c)
  where
    go : (t : Bool) → waits_at s p d ≡ t → cond t (Some d) (first_waiting s p cs) ≡ Some c
        → (first_waiting s p cs ≡ Some c → Waits s p c) → Waits s p c
    go true w e later =
        let same : d ≡ c = cc in
        rw same at (waits_at_facts s p d w)
    go false w e later = later e

-- what is known of the circuit that is picked
pub record Picked (s : Sender) (enable c : ℕ) : Type 0 where
  pub count : c < s.circuits.count
  pub pending : pending (slot_at s c) ≡ true
  pub enabled : enabled enable (slot_at s c).priority ≡ true

pick_from_waits : (s : Sender) (enable : ℕ) (ps : List ℕ) (c : ℕ) → pick_from s enable ps ≡ Some c → Picked s enable c
unfolding pick_from or_else
pick_from_waits s enable [] c e = absurd (let z : ◌≡◌ {A = ℕ} 0 1 = cc in omega arith)
pick_from_waits s enable (p ∷ ps) c e = go (enabled enable p) refl e (pick_from_waits s enable ps c)
  where
    first : (o : Option ℕ) → first_waiting s p (going_round s.last) ≡ o → or_else o (pick_from s enable ps) ≡ Some c
        → (pick_from s enable ps ≡ Some c → Picked s enable c) → enabled enable p ≡ true → Picked s enable c
    first None w e later on = later e
    first (Some d) w e later on =
        let f = first_waiting_waits s p (going_round s.last) c (w ∙ e) in
        record { count = f.count; pending = f.pending; enabled = ap (enabled enable) f.priority ∙ on }

    go : (t : Bool) → enabled enable p ≡ t
        → cond t (or_else (first_waiting s p (going_round s.last)) (pick_from s enable ps)) (pick_from s enable ps) ≡ Some c
        → (pick_from s enable ps ≡ Some c → Picked s enable c) → Picked s enable c
    go true on e later = first (first_waiting s p (going_round s.last)) refl e later on
    go false on e later = later e

pub pick_waits : (s : Sender) (enable c : ℕ) → pick s enable ≡ Some c → Picked s enable c
unfolding pick
pick_waits s enable c e = pick_from_waits s enable (3 ∷ 2 ∷ 1 ∷ 0 ∷ []) c e

pub pick_lt : (given : Bool) (s : Sender) (enable c : ℕ) → in_range given s ≡ true → pick s enable ≡ Some c → c < 4
pick_lt given s enable c e p =
    let f = in_range_facts s e in
    let g = pick_waits s enable c p in
    omega arith

-- ---- ranks: the circuit of the highest rank is picked

module _ (s : Sender) (enable c : ℕ) where
  -- the rank, test by test
  pub rank_unlisted : s.circuits.count ≤ c → rank s enable c ≡ 0
  unfolding rank waits_enabled
  rank_unlisted h = rw (le-ltb c s.circuits.count h)

  module _ (h : c < s.circuits.count) where
    pub rank_disabled : enabled enable (slot_at s c).priority ≡ false → rank s enable c ≡ 0
    unfolding rank waits_enabled
    rank_disabled off = rw (lt-ltb c s.circuits.count h, off)

    pub rank-none : enabled enable (slot_at s c).priority ≡ true → pending (slot_at s c) ≡ false → rank s enable c ≡ 0
    unfolding rank waits_enabled
    rank-none on w = rw (lt-ltb c s.circuits.count h, on, w)

    pub rank_waits : enabled enable (slot_at s c).priority ≡ true → pending (slot_at s c) ≡ true
        → rank s enable c ≡ 4 * (slot_at s c).priority + 4 - (c + 3 - s.last) % 4
    unfolding rank waits_enabled
    rank_waits on w = rw (lt-ltb c s.circuits.count h, on, w)

  -- at a circuit that has one a copy waits
  rank_picked : 0 < rank s enable c → Picked s enable c
  unfolding rank waits_enabled
  rank_picked h = go (waits_enabled s enable c) refl
    where
      go : (t : Bool) → waits_enabled s enable c ≡ t → Picked s enable c
      go true e =
          let (e₂, pending) = and_elim _ _ e in
          let (count, enabled) = and_elim _ _ e₂ in
          record { count = ltb-true _ _ count; pending = pending; enabled = enabled }
      go false e =
          let z : rank s enable c ≡ 0 = rw e in
          absurd (omega arith)

-- the priorities below one, from high to low
unfoldable below : ℕ → List ℕ
below zero = []
below (suc p) = p ∷ below p

module _ (s : Sender) (enable : ℕ) where
  -- no copy of an enabled priority waits where the rank is below the one that it would have
  waits_at-below : (p c : ℕ) → enabled enable p ≡ true → rank s enable c < 4 * p + 4 - (c + 3 - s.last) % 4 → waits_at s p c ≡ false
  waits_at-below p c on h = go (waits_at s p c) refl
    where
      go : (t : Bool) → waits_at s p c ≡ t → waits_at s p c ≡ false
      go true e =
          let f = waits_at_facts s p c e in
          let r = rank_waits s enable c f.count (ap (enabled enable) f.priority ∙ on) f.pending in
          absurd (omega (arith, f.priority))
      go false e = e

  -- so the first of a priority going round is the one of the highest rank, or none of it waits
  module _ (p k : ℕ) (last : s.last ≤ 3) (small : k < 4) (on : enabled enable p ≡ true) (waits : waits_at s p k ≡ true)
      (best : (c : ℕ) → c < 4 → rank s enable c ≤ 4 * p + 4 - (k + 3 - s.last) % 4) where
    before : (c : ℕ) → c < 4 → (c + 3 - s.last) % 4 < (k + 3 - s.last) % 4 → waits_at s p c ≡ false
    before c l sooner = waits_at-below p c on (omega (arith, best c l))

    first_waiting_best : first_waiting s p (going_round s.last) ≡ Some k
    unfolding first_waiting going_round
    first_waiting_best = go ((k + 3 - s.last) % 4) refl
      where
        go : (n : ℕ) → (k + 3 - s.last) % 4 ≡ n → first_waiting s p (going_round s.last) ≡ Some k
        go zero d =
            let e : (s.last + 1) % 4 ≡ k = omega arith in
            rw (e, waits)
        go (suc zero) d =
            let e : (s.last + 2) % 4 ≡ k = omega arith in
            rw (before ((s.last + 1) % 4) (omega arith) (omega arith), e, waits)
        go (suc (suc zero)) d =
            let e : (s.last + 3) % 4 ≡ k = omega arith in
            rw (before ((s.last + 1) % 4) (omega arith) (omega arith), before ((s.last + 2) % 4) (omega arith) (omega arith), e, waits)
        go (suc (suc (suc zero))) d =
            let e : (s.last + 4) % 4 ≡ k = omega arith in
            rw (
              before ((s.last + 1) % 4) (omega arith) (omega arith),
              before ((s.last + 2) % 4) (omega arith) (omega arith),
              before ((s.last + 3) % 4) (omega arith) (omega arith),
              e,
              waits,
            )
        go (suc (suc (suc (suc n)))) d = absurd (omega arith)

  first_waiting-none : (p : ℕ) → enabled enable p ≡ true → ((c : ℕ) → c < 4 → rank s enable c ≤ 4 * p)
      → first_waiting s p (going_round s.last) ≡ None
  unfolding first_waiting going_round
  first_waiting-none p on h =
      rw (
        none_at ((s.last + 1) % 4) (omega arith),
        none_at ((s.last + 2) % 4) (omega arith),
        none_at ((s.last + 3) % 4) (omega arith),
        none_at ((s.last + 4) % 4) (omega arith),
      )
    where
      none_at : (c : ℕ) → c < 4 → waits_at s p c ≡ false
      none_at c l = waits_at-below p c on (omega (arith, h c l))

  -- a priority of which none waits
  pick_from_next : (p : ℕ) → ((c : ℕ) → c < 4 → rank s enable c ≤ 4 * p) → pick_from s enable (below (suc p)) ≡ pick_from s enable (below p)
  unfolding pick_from below or_else
  pick_from_next p h = go (enabled enable p) refl
    where
      go : (t : Bool) → enabled enable p ≡ t → pick_from s enable (below (suc p)) ≡ pick_from s enable (below p)
      go true on = rw (on, first_waiting-none p on h)
      go false off = rw off

  pub pick_nobody : ((c : ℕ) → c < 4 → rank s enable c ≡ 0) → pick s enable ≡ None
  unfolding pick pick_from below
  pick_nobody h = go 4
    where
      go : (n : ℕ) → pick_from s enable (below n) ≡ None
      go zero = refl
      go (suc p) = pick_from_next p (λ c l. omega (arith, h c l)) ∙ go p

  pub pick_best : (given : Bool) (k : ℕ) → in_range given s ≡ true → k < 4 → 0 < rank s enable k → ((c : ℕ) → c < 4 → rank s enable c ≤ rank s enable k)
      → pick s enable ≡ Some k
  unfolding pick pick_from below or_else waits_at
  pick_best given k range small some-rank best = go 4 (omega (arith, (slot_in_range_facts (slot_at s k) (slot_in_range-slot_at given s k range f.count)).priority))
    where
      f : Picked s enable k
      f = rank_picked s enable k some-rank

      r : rank s enable k ≡ 4 * (slot_at s k).priority + 4 - (k + 3 - s.last) % 4
      r = rank_waits s enable k f.count f.enabled f.pending

      here : waits_at s (slot_at s k).priority k ≡ true
      here = rw (lt-ltb k s.circuits.count f.count, f.pending, eq-eqb (slot_at s k).priority (slot_at s k).priority refl)

      go : (n : ℕ) → (slot_at s k).priority < n → pick_from s enable (below n) ≡ Some k
      go zero h = absurd (omega arith)
      go (suc p) h = at (eqb (slot_at s k).priority p) refl (λ l. go p l)
        where
          at : (t : Bool) → eqb (slot_at s k).priority p ≡ t → ((slot_at s k).priority < p → pick_from s enable (below p) ≡ Some k)
              → pick_from s enable (below (suc p)) ≡ Some k
          at true e lower =
              let same : (slot_at s k).priority ≡ p = eqb-true _ _ e in
              let first = first_waiting_best (slot_at s k).priority k (in_range_facts s range).last small f.enabled here (λ c l. omega (arith, best c l, r)) in
              rw (← same, f.enabled, first)
          at false e lower =
              let other : (slot_at s k).priority ≡ p → ⊥ = eqb-false _ _ e in
              pick_from_next p (λ c l. omega (arith, best c l, r)) ∙ lower (omega arith)

-- ---- serving it

-- a slot in range with a copy to place
pub record SlotPending (t : Slot) : Type 0 where
  pub in_range : SlotFacts longest_long t
  pub pending : t.place < packets t.length

pub slot_pending : (t : Slot) → slot_in_range longest_long t ≡ true → pending t ≡ true → SlotPending t
unfolding pending
slot_pending t e p = record { in_range = slot_in_range_facts t e; pending = ltb-true _ _ p }

pub advanced-copy_placed : (t : Slot) → t.copy < t.repetition → advanced t ≡ copy_placed t
unfolding advanced
advanced-copy_placed t h = rw (lt-ltb t.copy t.repetition h)

pub advanced-packet_placed : (t : Slot) → t.repetition ≤ t.copy → advanced t ≡ packet_placed t
unfolding advanced
advanced-packet_placed t h = rw (le-ltb t.copy t.repetition h)

-- what holds in both cases
advanced_cases : (P : Slot → Type 0) (t : Slot) → (t.copy < t.repetition → P (copy_placed t)) → (t.repetition ≤ t.copy → P (packet_placed t)) → P (advanced t)
advanced_cases P t f g = go (ltb t.copy t.repetition) refl
  where
    go : (b : Bool) → ltb t.copy t.repetition ≡ b → P (advanced t)
    go true e =
        let h : t.copy < t.repetition = ltb-true _ _ e in
        rw (advanced-copy_placed t h) (f h)
    go false e =
        let h : t.repetition ≤ t.copy = ltb-false _ _ e in
        rw (advanced-packet_placed t h) (g h)

-- a slot stays in range, and one copy less waits there
pub slot_in_range-advanced : (most : ℕ) (t : Slot) → slot_in_range most t ≡ true → pending t ≡ true → slot_in_range most (advanced t) ≡ true
unfolding pending
slot_in_range-advanced most t e p =
    let f = slot_in_range_facts t e in
    let more : t.place < packets t.length = ltb-true _ _ p in
    facts_slot_in_range (advanced t) (advanced_cases (SlotFacts most) t (λ h. omega arith) (λ h. omega arith))

pub copies_served : (t : Slot) → slot_in_range longest_long t ≡ true → pending t ≡ true → copies_waiting (advanced t) + 1 ≡ copies_waiting t
unfolding copies_waiting
copies_served t e p =
    let f = slot_pending t e p in
    let m = packets t.length - (t.place + 1) in
    let all : packets t.length - t.place ≡ suc m = omega arith in
    advanced_cases (λ (t' : Slot). copies_waiting t' + 1 ≡ copies_waiting t) t
    (λ h. rw (all, suc-mul) (omega arith))
    (λ h. rw (all, suc-mul) (omega arith))

-- the record stays in range
pub served_in_range : (given : Bool) (s : Sender) (enable c : ℕ) → in_range given s ≡ true → pick s enable ≡ Some c → in_range given (served s c) ≡ true
unfolding served
served_in_range given s enable c e p =
    let f = in_range_facts s e in
    let g = pick_waits s enable c p in
    let t : slot_in_range (longest_at given c) (advanced (slot_at s c)) ≡ true =
    slot_in_range-advanced (longest_at given c) (slot_at s c) (slot_in_range-slot_at given s c e g.count) g.pending in
    facts_in_range (served s c)
    (record {
      count = f.count;
      circuits = f.circuits;
      last = omega arith;
      enable = f.enable;
      slots = slots_in_range-set given s.circuits.count s.slots c (advanced (slot_at s c)) f.slots t;
    })
