-- What a record in range has, slot by slot, and what makes one in range.
use mathlib.Core.Path.{◌≡◌, refl, sym, ◌∙◌}
use Prim.Native.Nat.{ℕ, zero, suc, ◌+◌, ◌-◌, ◌≤◌, ◌<◌}
use native.Mathlib.Numerals.{add-one}
use native.Mathlib.Omega.{arith}
use mathlib.Core.Bool.{Bool, true, false, not, ◌&&◌, and-eq-true_iff, true≢false}
use mathlib.Core.List.{List, [], ◌∷◌}
use lib.ListN.{length, drop, get_or, set}
use lib.Dec.{ltb, eqb}
use lib.Seq.{drop-cons}
use borrow.Author.Tests.{leb-true, eqb-true, le-leb, eq-eqb, ne_eqb, ltb-true, ltb-false}
use Rattle.bits.proofs.Tests.{and_both}
use Rattle.packet.specs.Circuits.{circuits_refusal, listed}
use Rattle.packet.specs.Messages.{longest_long, packets}
use Rattle.packet.specs.Stores.{longest_at}
use Rattle.packet.proofs.LongBuffers.{longest_at_bounds, longest_at-given}
use Rattle.offering.specs.declared.Slot.{Slot}
use Rattle.offering.specs.declared.Sender.{Sender}
use Rattle.offering.specs.Record.{no_slot, slot_at, pending, slot_in_range, slots_in_range, in_range, PendingIffLeft}

-- both tests of a conjunction
pub and_elim : (a b : Bool) → (a && b) ≡ true → (a ≡ true) × (b ≡ true)
and_elim a b e = (and-eq-true_iff a b).0 e

-- what a slot in range is
pub record SlotFacts (most : ℕ) (t : Slot) : Type 0 where
  pub index : t.index ≤ 7
  pub priority : t.priority ≤ 3
  pub repetition : t.repetition ≤ 5
  pub short : t.length ≤ most
  pub place : t.place ≤ packets t.length
  pub copy : t.copy ≤ t.repetition
  pub left : t.left ≡ packets t.length - t.place

pub slot_in_range_facts : {most : ℕ} (t : Slot) → slot_in_range most t ≡ true → SlotFacts most t
unfolding slot_in_range
slot_in_range_facts t e =
    let (e₆, left) = and_elim _ _ e in
    let (e₅, copy) = and_elim _ _ e₆ in
    let (e₄, place) = and_elim _ _ e₅ in
    let (e₃, length) = and_elim _ _ e₄ in
    let (e₂, repetition) = and_elim _ _ e₃ in
    let (index, priority) = and_elim _ _ e₂ in
    record {
      index = leb-true _ _ index;
      priority = leb-true _ _ priority;
      repetition = leb-true _ _ repetition;
      short = leb-true _ _ length;
      place = leb-true _ _ place;
      copy = leb-true _ _ copy;
      left = eqb-true _ _ left;
    }

pub facts_slot_in_range : {most : ℕ} (t : Slot) → SlotFacts most t → slot_in_range most t ≡ true
unfolding slot_in_range
facts_slot_in_range t f =
    and_both _ _
    (and_both _ _
    (and_both _ _
    (and_both _ _
    (and_both _ _
    (and_both _ _ (le-leb _ _ f.index) (le-leb _ _ f.priority))
    (le-leb _ _ f.repetition))
    (le-leb _ _ f.short))
    (le-leb _ _ f.place))
    (le-leb _ _ f.copy))
    (eq-eqb _ _ f.left)

-- a slot in range is so where a message may be longer
pub slot_in_range_wider : {less more : ℕ} (t : Slot) → less ≤ more → slot_in_range less t ≡ true → slot_in_range more t ≡ true
slot_in_range_wider t h e =
    let f = slot_in_range_facts t e in
    facts_slot_in_range t
    (record {
      index = f.index;
      priority = f.priority;
      repetition = f.repetition;
      short = omega (arith, f.short);
      place = f.place;
      copy = f.copy;
      left = f.left;
    })

-- a message is pending where packets are left, and only there
pub pending-iff-left : PendingIffLeft
unfolding PendingIffLeft pending
pending-iff-left most t e = go (ltb t.place (packets t.length)) refl
  where
    f : SlotFacts most t
    f = slot_in_range_facts t e

    go : (b : Bool) → ltb t.place (packets t.length) ≡ b → b ≡ not (eqb t.left 0)
    go true p =
        let some : t.left ≡ 0 → ⊥ = omega (arith, f.left, ltb-true t.place (packets t.length) p) in
        rw (ne_eqb t.left 0 some)
    go false p =
        let none : t.left ≡ 0 = omega (arith, f.left, ltb-false t.place (packets t.length) p) in
        rw (eq-eqb t.left 0 none)

-- what a record in range is
pub record SenderFacts (given : Bool) (s : Sender) : Type 0 where
  pub count : s.circuits.count ≤ 4
  pub circuits : circuits_refusal (listed s.circuits) ≡ 0
  pub last : s.last ≤ 3
  pub enable : s.enable ≤ 15
  pub slots : slots_in_range given 0 s.circuits.count s.slots ≡ true

pub in_range_facts : {given : Bool} (s : Sender) → in_range given s ≡ true → SenderFacts given s
unfolding in_range
in_range_facts s e =
    let (e₄, slots) = and_elim _ _ e in
    let (e₃, enable) = and_elim _ _ e₄ in
    let (e₂, last) = and_elim _ _ e₃ in
    let (count, circuits) = and_elim _ _ e₂ in
    record {
      count = leb-true _ _ count;
      circuits = eqb-true _ _ circuits;
      last = leb-true _ _ last;
      enable = leb-true _ _ enable;
      slots = slots;
    }

pub facts_in_range : {given : Bool} (s : Sender) → SenderFacts given s → in_range given s ≡ true
unfolding in_range
facts_in_range s f =
    and_both _ _
    (and_both _ _
    (and_both _ _ (and_both _ _ (le-leb _ _ f.count) (eq-eqb _ _ f.circuits)) (le-leb _ _ f.last))
    (le-leb _ _ f.enable))
    f.slots

-- the first n slots, judged one after another: those from i on are in range exactly if all are
module _ (given : Bool) (ts : List Slot) (n i : ℕ) (fits : n ≤ length ts)
    (left : slots_in_range given i (n - i) (drop i ts) ≡ slots_in_range given 0 n ts) where
  -- slot i, and those behind it
  slots_at : i < n
      → slots_in_range given 0 n ts ≡ (slot_in_range (longest_at given i) (get_or ts i no_slot) && slots_in_range given (i + 1) (n - (i + 1)) (drop (i + 1) ts))
  unfolding slots_in_range
  slots_at h =
      let here : i < length ts = omega arith in
      let more : n - i ≡ suc (n - (i + 1)) = omega arith in
      sym left ∙ rw (more, drop-cons ts i no_slot here, add-one) refl

  -- b tells of slot i: it is out of range
  pub slots_out : i < n → (b : Bool) → b ≡ slot_in_range (longest_at given i) (get_or ts i no_slot) → b ≡ false → false ≡ slots_in_range given 0 n ts
  slots_out h b t out = sym (slots_at h ∙ rw (← t, out))

  -- or it is in range, and those behind it are left
  pub slots_in : i < n → (b : Bool) → b ≡ slot_in_range (longest_at given i) (get_or ts i no_slot) → b ≡ true
      → slots_in_range given (i + 1) (n - (i + 1)) (drop (i + 1) ts) ≡ slots_in_range given 0 n ts
  slots_in h b t inside = sym (slots_at h ∙ rw (← t, inside))

  -- none is left
  pub slots_end : n ≤ i → true ≡ slots_in_range given 0 n ts
  unfolding slots_in_range
  slots_end h =
      let none : n - i ≡ 0 = omega arith in
      rw none at left

-- the slot of number k, which is the i-th from c on, and a slot that is changed
slots_in_range-get_or : (given : Bool) (c n : ℕ) (ts : List Slot) (i k : ℕ) → k ≡ c + i → slots_in_range given c n ts ≡ true → i < n
    → slot_in_range (longest_at given k) (get_or ts i no_slot) ≡ true
unfolding slots_in_range
slots_in_range-get_or given c zero ts i k at e h = absurd (omega arith)
slots_in_range-get_or given c (suc n) [] i k at e h = absurd (true≢false (sym e))
slots_in_range-get_or given c (suc n) (t ∷ ts) zero k at e h =
    let same : k ≡ c = omega arith in
    rw same (and_elim (slot_in_range (longest_at given c) t) (slots_in_range given (suc c) n ts) e).0
slots_in_range-get_or given c (suc n) (t ∷ ts) (suc i) k at e h =
    slots_in_range-get_or given (suc c) n ts i k (omega arith)
    (and_elim (slot_in_range (longest_at given c) t) (slots_in_range given (suc c) n ts) e).1 (omega arith)

slots_in_range-set_from : (given : Bool) (c n : ℕ) (ts : List Slot) (i k : ℕ) (t : Slot) → k ≡ c + i → slots_in_range given c n ts ≡ true
    → slot_in_range (longest_at given k) t ≡ true → slots_in_range given c n (set ts i t) ≡ true
unfolding slots_in_range
slots_in_range-set_from given c zero ts i k t at e h = refl
slots_in_range-set_from given c (suc n) [] i k t at e h = e
slots_in_range-set_from given c (suc n) (x ∷ ts) zero k t at e h =
    let same : c ≡ k = omega arith in
    let here : slot_in_range (longest_at given c) t ≡ true = rw same h in
    and_both _ _ here (and_elim (slot_in_range (longest_at given c) x) (slots_in_range given (suc c) n ts) e).1
slots_in_range-set_from given c (suc n) (x ∷ ts) (suc i) k t at e h =
    let (f, g) = and_elim (slot_in_range (longest_at given c) x) (slots_in_range given (suc c) n ts) e in
    and_both _ _ f (slots_in_range-set_from given (suc c) n ts i k t (omega arith) g h)

pub slots_in_range-set : (given : Bool) (n : ℕ) (ts : List Slot) (c : ℕ) (t : Slot) → slots_in_range given 0 n ts ≡ true
    → slot_in_range (longest_at given c) t ≡ true → slots_in_range given 0 n (set ts c t) ≡ true
slots_in_range-set given n ts c t e h = slots_in_range-set_from given 0 n ts c c t (omega arith) e h

pub slot_in_range-slot_at : (given : Bool) (s : Sender) (c : ℕ) → in_range given s ≡ true → c < s.circuits.count
    → slot_in_range (longest_at given c) (slot_at s c) ≡ true
unfolding slot_at
slot_in_range-slot_at given s c e h = slots_in_range-get_or given 0 s.circuits.count s.slots c c (omega arith) (in_range_facts s e).slots h

-- the same, with the bound that holds at every number
pub slot_in_range-wide : (given : Bool) (s : Sender) (c : ℕ) → in_range given s ≡ true → c < s.circuits.count → slot_in_range longest_long (slot_at s c) ≡ true
slot_in_range-wide given s c e h = slot_in_range_wider (slot_at s c) (longest_at_bounds given c).1 (slot_in_range-slot_at given s c e h)

-- with a long buffer a record is in range that is so without one
slots_in_range-given : (given : Bool) (c n : ℕ) (ts : List Slot) → slots_in_range given c n ts ≡ true → slots_in_range true c n ts ≡ true
unfolding slots_in_range
slots_in_range-given given c zero ts e = refl
slots_in_range-given given c (suc n) [] e = e
slots_in_range-given given c (suc n) (t ∷ ts) e =
    let (f, g) = and_elim (slot_in_range (longest_at given c) t) (slots_in_range given (suc c) n ts) e in
    and_both _ _ (slot_in_range_wider t (longest_at-given given c) f) (slots_in_range-given given (suc c) n ts g)

pub in_range-given : (given : Bool) (s : Sender) → in_range given s ≡ true → in_range true s ≡ true
in_range-given given s e =
    let f = in_range_facts s e in
    facts_in_range s
    (record {
      count = f.count;
      circuits = f.circuits;
      last = f.last;
      enable = f.enable;
      slots = slots_in_range-given given 0 s.circuits.count s.slots f.slots;
    })
