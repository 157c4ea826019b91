-- Block making: the frames in a block are the copies that the block rule takes from the queues, and the record left stands for the queues left.
use Prim.Native.Nat.{ℕ, zero, suc, ◌+◌, ◌≤◌, ◌<◌}
use native.Mathlib.Omega.{arith}
use mathlib.Core.Bool.{Bool, true, false, cond}
use mathlib.Core.List.{List, [], ◌∷◌}
use Rattle.std.proofs.Common.{Option, None, Some}
use mathlib.Core.Path.{◌≡◌, refl, sym, ap, ap₂, subst}
use lib.ListN.{length, take, get_or}
use lib.Dec.{leb}
use Rattle.packet.specs.Circuits.{no_circuit}
use Rattle.packet.specs.Stores.{Stores}
use Rattle.offering.specs.declared.Slot.{Slot}
use Rattle.offering.specs.declared.Sender.{Sender}
use Rattle.offering.specs.Record.{no_slot, slot_at, message_at}
use Rattle.offering.proofs.Ranges.{in_range_facts}
use Rattle.picking.specs.Picking.{pick, served, copies_waiting}
use Rattle.writing.specs.NextFrame.{next_frame}
use Rattle.sender.specs.Blocks.{flagged_frames, placed_packets, Filled, full, and_then, placing, fill, copies_in, waiting, fill_up, in_force, ruled, block_filled}
use Rattle.sender.proofs.InForce.{in_range-ruled}
use Rattle.queues.specs.Queues.{Queue, Queues, fresh_queue, queue_at, serve_queues, ruled_queues, Placed, Taken, taken_none, and_taken, taking_first, taking, take_up_to, copies_in_queues, take_frames}
use Rattle.queues.specs.Effects.{BlockAsked, taken_for, packets_taken}
use Rattle.queues.specs.Stands.{Stands}
use Rattle.queues.proofs.Stands.{StandsFor-copies_waiting}
use Rattle.queues.proofs.StandsPick.{stands_pick, stands_first, stands_serve}

-- what is filled is what is taken
pub record FilledAs (store : Stores) (f : Filled) (t : Taken) : Type 0 where
  pub packets : placed_packets f.frames ≡ packets_taken t.frames
  pub stands : Stands f.sender store t.queues

module _ (s : Sender) (store : Stores) (q : Queues) (h : Stands s store q) where
  FilledAs-none : FilledAs store (full s) (taken_none q)
  unfolding full taken_none placed_packets packets_taken
  FilledAs-none = record { packets = refl; stands = h }

  FilledAs_more : (c : ℕ) (p : Placed) (f : Filled) (t : Taken) → FilledAs store f t → (fits : Bool)
      → FilledAs store (cond fits (and_then (record { number = c; packet = p.copy.packet }) f) (full s)) (cond fits (and_taken p t) (taken_none q))
  unfolding and_then and_taken placed_packets packets_taken
  FilledAs_more c p f t e true = record { packets = ap (λ l. p.copy.packet ∷ l) e.packets; stands = e.stands }
  FilledAs_more c p f t e false = FilledAs-none

  -- one frame, and what comes later
  FilledAs-placing : (enable at u : ℕ) (f : ℕ → Filled) (g : ℕ → ℕ → Taken)
      → ((c : ℕ) → pick s enable ≡ Some c → FilledAs store (f c) (g c (at + length (next_frame s store c))))
      → FilledAs store (placing (pick s enable) s store at u f) (taking (pick s enable) q at u g)
  unfolding placing taking taking_first next_frame
  FilledAs-placing enable at u f g later = go (pick s enable) refl
    where
      go : (o : Option ℕ) → pick s enable ≡ o → FilledAs store (placing o s store at u f) (taking o q at u g)
      go None e = FilledAs-none
      go (Some c) e =
          rw (stands_first s store q h enable c e)
          (FilledAs_more c _ (f c) (g c (at + length (next_frame s store c))) (later c e) (leb (at + length (next_frame s store c)) u))

-- at most n frames
FilledAs-fill : (n : ℕ) (s : Sender) (store : Stores) (q : Queues) (at enable u : ℕ) → Stands s store q
    → FilledAs store (fill n s store at enable u) (take_up_to n q at enable u)
unfolding fill take_up_to
FilledAs-fill zero s store q at enable u h = FilledAs-none s store q h
FilledAs-fill (suc n) s store q at enable u h =
    rw (← stands_pick s store q h enable)
    (FilledAs-placing s store q h enable at u _ _
    (λ c e. FilledAs-fill n (served s c) store (serve_queues q c) (at + length (next_frame s store c)) enable u (stands_serve s store q h enable c e)))

-- as many copies wait on both sides
copies_in-copies_in_queues : (qs : List Queue) (ts : List Slot) → length qs ≤ length ts
    → ((i : ℕ) → i < length qs → length (get_or qs i (fresh_queue no_circuit)).copies ≡ copies_waiting (get_or ts i no_slot))
    → copies_in (take (length qs) ts) ≡ copies_in_queues qs
unfolding copies_in copies_in_queues
copies_in-copies_in_queues [] ts fits same = refl
copies_in-copies_in_queues (q ∷ qs) [] fits same = absurd (omega arith)
copies_in-copies_in_queues (q ∷ qs) (t ∷ ts) fits same =
    ap₂ ◌+◌ (sym (same 0 (omega arith))) (copies_in-copies_in_queues qs ts (omega arith) (λ i e. same (suc i) (omega arith)))

waiting-copies_in_queues : (s : Sender) (store : Stores) (q : Queues) → Stands s store q → waiting s ≡ copies_in_queues q.queues
unfolding waiting slot_at queue_at
waiting-copies_in_queues s store q h =
    let fits : length q.queues ≤ length s.slots = omega (arith, h.count, h.slots, (in_range_facts s h.range).count) in
    rw (← h.count)
    (copies_in-copies_in_queues q.queues s.slots fits
    (λ i e.
    let listed : i < s.circuits.count = rw h.count at e in
    StandsFor-copies_waiting (get_or s.circuits.list i no_circuit) (slot_at s i) (message_at s store i) (queue_at q i) (h.each i listed)))

-- frames from bit `at` on, under the enable bits in force
stands_fill_up : (s : Sender) (store : Stores) (q : Queues) (at u : ℕ) → Stands s store q
    → FilledAs store (fill_up s store at s.enable u) (take_frames q at q.enable u)
unfolding fill_up take_frames
stands_fill_up s store q at u h =
    subst (λ enable. FilledAs store (fill_up s store at s.enable u) (take_frames q at enable u)) (sym h.enable)
    (rw (waiting-copies_in_queues s store q h) (FilledAs-fill (copies_in_queues q.queues) s store q at s.enable u h))

-- the record under the enable bits of a block, where they are at most 15, stands for the queues under them
stands_ruled : (s : Sender) (store : Stores) (q : Queues) (new_enable : Option ℕ) → Stands s store q → in_force s.enable new_enable ≤ 15
    → Stands (ruled s new_enable) store (ruled_queues q new_enable)
unfolding ruled ruled_queues slot_at message_at queue_at
stands_ruled s store q new_enable h few =
    record {
      range = in_range-ruled _ s new_enable h.range few;
      places = h.places;
      slots = h.slots;
      count = h.count;
      last = h.last;
      enable = ap (λ held. in_force held new_enable) h.enable;
      each = h.each;
    }

-- our frames in a block are the copies that the block rule takes from the queues
pub stands_block : (s : Sender) (store : Stores) (q : Queues) (t : BlockAsked) → Stands s store q → in_force s.enable t.new_enable ≤ 15
    → FilledAs store (block_filled s store t.usable t.before t.new_enable) (taken_for q t)
unfolding block_filled taken_for
stands_block s store q t h few =
    stands_fill_up (ruled s t.new_enable) store (ruled_queues q t.new_enable) (length (flagged_frames t.before)) t.usable
    (stands_ruled s store q t.new_enable h few)
