-- Hearings: what a packet leaves and tells, from what the code's parts answer; what is known of a listed circuit's number; and what a packet leaves is in
-- range again, and what its notice writes stands in it and in the store.
use Rattle.std.proofs.Common.{◌≡◌, ℕ, ◌<◌, ◌≤◌, Bool, true, false, eqb, List, length, take, refl, arith, lt-ltb, eq-eqb, ne_eqb}
use Rattle.std.specs.Prelude.{Option, None, Some}
use Rattle.bits.specs.Bits.{Bytes}
use Rattle.packet.specs.declared.Circuit.{Circuit}
use Rattle.packet.specs.declared.Circuits.{Circuits}
use Rattle.packet.specs.Circuits.{listed, number_from}
use Rattle.packet.specs.Messages.{longest_long}
use Rattle.packet.specs.Stores.{longest_at}
use Rattle.packet.proofs.CircuitLists.{number_lt}
use Rattle.packet.proofs.Choices.{cond_either}
use Rattle.parsing.specs.Packets.{address, lead, circuit_in, malformed}
use Rattle.parsing.proofs.PacketParts.{malformed-lead}
use Rattle.notices.specs.declared.Slot.{Slot}
use Rattle.notices.specs.declared.Notice.TheVariants.{Malformed, Elsewhere}
use Rattle.notices.specs.declared.Hearing.{Hearing}
use Rattle.notices.specs.Slots.{slot_at, slot_in_range, slots_in_range}
use Rattle.notices.specs.Stores.{writable}
use Rattle.notices.specs.Heard.{heard_at, heard_by, system_heard, heard}
use Rattle.notices.proofs.FateLaws.{slot_in_range-wide}
use Rattle.notices.proofs.LongParts.{fate_fits}
use Rattle.notices.proofs.SlotsInRange.{get_or-slots_in_range, set-slots_in_range, slot_after_in_range}

-- ---- what a packet leaves and tells, test by test

module _ (given : Bool) (slots : List Slot) (p : List ℕ) (cs : Circuits) where
  pub heard-malformed : malformed p ≡ true → record { slots = slots; notice = Malformed; first = false } ≡ heard given cs slots p
  unfolding heard
  heard-malformed e = rw e

  module _ (right : malformed p ≡ false) where
    pub heard-system : address p ≡ 0xff → system_heard slots p ≡ heard given cs slots p
    unfolding heard
    heard-system there = rw (right, eq-eqb (address p) 0xff there)

    module _ (other : address p ≡ 0xff → ⊥) where
      pub heard_elsewhere : number_from (listed cs) (circuit_in p) 0 ≡ None
          → record { slots = slots; notice = Elsewhere; first = false } ≡ heard given cs slots p
      unfolding heard heard_by
      heard_elsewhere e = rw (right, ne_eqb (address p) 0xff other, e)

      pub heard_circuit : (n : ℕ) → number_from (listed cs) (circuit_in p) 0 ≡ Some n → heard_at given n slots p ≡ heard given cs slots p
      unfolding heard heard_by
      heard_circuit n e = rw (right, ne_eqb (address p) 0xff other, e)

-- ---- slots in range

module _ (given : Bool) (cs : Circuits) (slots : List Slot) (range : slots_in_range given 0 (take cs.count slots) ≡ true) where
  -- a number that is found is a listed circuit's, and its slot is in range
  pub number_slot : cs.count ≤ 4 → (d : Circuit) (n : ℕ) → number_from (listed cs) d 0 ≡ Some n
      → (n < 4) × (slot_in_range (longest_at given n) (slot_at slots n) ≡ true)
  unfolding slot_at
  number_slot few d n e =
      let inside : n < cs.count = number_lt cs d n e in
      (omega arith, get_or-slots_in_range given cs.count slots n inside range)

  -- what a packet leaves is in range again
  module _ (p : List ℕ) (bytes : Bytes p) where
    heard_by_in_range : (o : Option ℕ) → slots_in_range given 0 (take cs.count (heard_by given o slots p).slots) ≡ true
    unfolding heard_by heard_at slot_at
    heard_by_in_range None = range
    heard_by_in_range (Some c) =
        set-slots_in_range given cs.count slots c _
        (λ inside. slot_after_in_range given c (slot_at slots c) p bytes (get_or-slots_in_range given cs.count slots c inside range)) range

    pub heard_slots_in_range : slots_in_range given 0 (take cs.count (heard given cs slots p).slots) ≡ true
    unfolding heard system_heard
    heard_slots_in_range =
        cond_either (λ (h : Hearing). slots_in_range given 0 (take cs.count h.slots) ≡ true) (malformed p) _ _ (λ _. range)
        (λ _. cond_either (λ (h : Hearing). slots_in_range given 0 (take cs.count h.slots) ≡ true) (eqb (address p) 0xff) _ _ (λ _. range)
        (λ _. heard_by_in_range (number_from (listed cs) (circuit_in p) 0)))

  -- and what its notice writes stands in it, in the store and in the long buffer
  module _ (few : cs.count ≤ 4) (p long : List ℕ) (enough : given ≡ true → longest_long ≤ length long) where
    heard_by-writable : lead p < length p → (o : Option ℕ) → ((n : ℕ) → o ≡ Some n → (n < 4) × (slot_in_range (longest_at given n) (slot_at slots n) ≡ true))
        → writable (heard_by given o slots p).notice slots p long ≡ true
    unfolding heard_by heard_at writable
    heard_by-writable segment None known = refl
    heard_by-writable segment (Some c) known =
        let t : Slot = slot_at slots c in
        rw (
          lt-ltb c 4 (known c refl).0,
          slot_in_range-wide given c t (known c refl).1,
          lt-ltb (lead p) (length p) segment,
          fate_fits given c t p (known c refl).1 long enough,
        )

    pub heard-writable : writable (heard given cs slots p).notice slots p long ≡ true
    unfolding heard system_heard writable
    heard-writable =
        cond_either (λ (h : Hearing). writable h.notice slots p long ≡ true) (malformed p) _ _ (λ _. refl)
        (λ right. cond_either (λ (h : Hearing). writable h.notice slots p long ≡ true) (eqb (address p) 0xff) _ _
        (λ _. lt-ltb (lead p) (length p) (malformed-lead p (malformed p) refl right))
        (λ _. heard_by-writable (malformed-lead p (malformed p) refl right) (number_from (listed cs) (circuit_in p) 0) (number_slot few (circuit_in p))))
