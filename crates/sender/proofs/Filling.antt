-- Filling a block: serving the picked circuit leaves one copy less to place, so that the number of copies by which the definition recurses is
-- never met before picking ends (`fill_up-step`); and what is used is at most U.
use mathlib.Core.Path.{◌≡◌, refl}
use Prim.Native.Nat.{ℕ, zero, suc, ◌+◌, ◌≤◌, ◌<◌}
use native.Mathlib.Omega.{arith}
use mathlib.Core.Bool.{Bool, true, false, cond}
use mathlib.Core.List.{List, [], ◌∷◌}
use Rattle.std.proofs.Common.{Option, None, Some}
use lib.ListN.{length, take, get_or, set, length-append, length-take}
use lib.Seq.{take-set-lt, get_or-take}
use lib.Dec.{leb}
use borrow.Author.Tests.{leb-true}
use Rattle.offering.specs.declared.Slot.{Slot}
use Rattle.packet.specs.Stores.{Stores}
use Rattle.offering.specs.declared.Sender.{Sender}
use Rattle.offering.specs.Record.{no_slot, slot_at, slots_in_range, in_range}
use Rattle.offering.proofs.Ranges.{and_elim, in_range_facts, slot_in_range-wide}
use Rattle.picking.specs.Picking.{pick, advanced, served, copies_waiting}
use Rattle.picking.proofs.PickingLaws.{pick_waits, copies_served}
use Rattle.writing.specs.NextFrame.{next_packet, next_frame}
use Rattle.sender.specs.Blocks.{frames_bits, placed_packets, Filled, full, and_then, placing, fill, copies_in, waiting, fill_up}

-- one copy less waits in all
copies_in-set : (ts : List Slot) (i : ℕ) (t : Slot) → i < length ts → copies_waiting t + 1 ≡ copies_waiting (get_or ts i no_slot)
    → copies_in (set ts i t) + 1 ≡ copies_in ts
unfolding copies_in
copies_in-set [] i t h e = absurd (omega arith)
copies_in-set (x ∷ ts) zero t h e = omega arith
copies_in-set (x ∷ ts) (suc i) t h e =
    let ih : copies_in (set ts i t) + 1 ≡ copies_in ts = copies_in-set ts i t (omega arith) e in
    omega arith

-- the slots of the circuits listed are there
slots_in_range-length : (given : Bool) (c n : ℕ) (ts : List Slot) → slots_in_range given c n ts ≡ true → n ≤ length ts
unfolding slots_in_range
slots_in_range-length given c zero ts h = omega arith
slots_in_range-length given c (suc n) [] h = cc
slots_in_range-length given c (suc n) (t ∷ ts) h = omega (arith, slots_in_range-length given (suc c) n ts (and_elim _ _ h).1)

pub waiting-served : (given : Bool) (s : Sender) (enable c : ℕ) → in_range given s ≡ true → pick s enable ≡ Some c → suc (waiting (served s c)) ≡ waiting s
unfolding waiting served slot_at
waiting-served given s enable c e p =
    let f = in_range_facts s e in
    let g = pick_waits s enable c p in
    let n = s.circuits.count in
    let within : c < length (take n s.slots) = rw length-take (omega (arith, g.count, slots_in_range-length given 0 n s.slots f.slots)) in
    let fewer : copies_waiting (advanced (slot_at s c)) + 1 ≡ copies_waiting (get_or (take n s.slots) c no_slot) =
    rw (get_or-take n s.slots c no_slot g.count) (copies_served (slot_at s c) (slot_in_range-wide given s c e g.count) g.pending) in
    rw (take-set-lt n s.slots c (advanced (slot_at s c)) g.count)
    (omega (arith, copies_in-set (take n s.slots) c (advanced (slot_at s c)) within fewer))

-- where no copy waits none is picked
pick-none : (given : Bool) (s : Sender) (enable : ℕ) → in_range given s ≡ true → waiting s ≡ 0 → pick s enable ≡ None
pick-none given s enable e w = go (pick s enable) refl
  where
    go : (o : Option ℕ) → pick s enable ≡ o → o ≡ None
    go None p = refl
    go (Some c) p = absurd (omega (arith, waiting-served given s enable c e p))

-- the count in `fill` is not seen
pub fill_up-step : (s : Sender) (store : Stores) (at enable u : ℕ) → in_range store.given s ≡ true
    → fill_up s store at enable u
    ≡ placing (pick s enable) s store at u (λ c. fill_up (served s c) store (at + length (next_frame s store c)) enable u)
unfolding fill_up fill placing
fill_up-step s store at enable u e = go (waiting s) refl
  where
    later : ℕ → Filled
    later c = fill_up (served s c) store (at + length (next_frame s store c)) enable u

    picked : (n : ℕ) (o : Option ℕ) → waiting s ≡ suc n → pick s enable ≡ o
        → placing o s store at u (λ c. fill n (served s c) store (at + length (next_frame s store c)) enable u) ≡ placing o s store at u later
    picked n None w p = refl
    picked n (Some c) w p =
        let rest : n ≡ waiting (served s c) = omega (arith, waiting-served _ s enable c e p) in
        rw rest

    go : (n : ℕ) → waiting s ≡ n → fill n s store at enable u ≡ placing (pick s enable) s store at u later
    go zero w = rw (pick-none _ s enable e w)
    go (suc n) w = picked n (pick s enable) w refl

-- what holds where filling ends, and behind a frame that does not pass U
pub placing_cases : (P : Filled → Type 0) (o : Option ℕ) (s : Sender) (store : Stores) (at u : ℕ) (later : ℕ → Filled) → P (full s)
    → ((c : ℕ) → o ≡ Some c → at + length (next_frame s store c) ≤ u
    → P (and_then (record { number = c; packet = next_packet s store c }) (later c)))
    → P (placing o s store at u later)
unfolding placing
placing_cases P None s store at u later ends goes = ends
placing_cases P (Some c) s store at u later ends goes = go (leb (at + length (next_frame s store c)) u) refl
  where
    more : Filled
    more = and_then (record { number = c; packet = next_packet s store c }) (later c)

    go : (t : Bool) → leb (at + length (next_frame s store c)) u ≡ t → P (cond t more (full s))
    go true e = goes c refl (leb-true (at + length (next_frame s store c)) u e)
    go false e = ends

-- what is used is at most U
fill_used : (n : ℕ) (s : Sender) (store : Stores) (at enable u : ℕ) → at ≤ u → at + length (frames_bits (placed_packets (fill n s store at enable u).frames)) ≤ u
unfolding fill full and_then placed_packets frames_bits next_frame
fill_used zero s store at enable u h = omega arith
fill_used (suc n) s store at enable u h =
    placing_cases (λ (f : Filled). at + length (frames_bits (placed_packets f.frames)) ≤ u) (pick s enable) s store at u
    (λ c. fill n (served s c) store (at + length (next_frame s store c)) enable u) (omega arith)
    (λ c p l. rw length-append (omega (arith, fill_used n (served s c) store (at + length (next_frame s store c)) enable u l)))

pub fill_up_used : (s : Sender) (store : Stores) (at enable u : ℕ) → at ≤ u
    → at + length (frames_bits (placed_packets (fill_up s store at enable u).frames)) ≤ u
unfolding fill_up
fill_up_used s store at enable u h = fill_used (waiting s) s store at enable u h
