-- Each frame placed has a priority that the enable bits in force in its block enable: those by which it was picked.
use Prim.Native.Nat.{ℕ, zero, suc, ◌+◌, ◌≤◌}
use native.Mathlib.Omega.{arith}
use mathlib.Core.Bool.{Bool, true, false, cond}
use mathlib.Core.List.{List, [], ◌∷◌, ◌++◌, append-nil}
use mathlib.Core.Path.{◌≡◌, refl, sym, ap, subst, ◌∙◌}
use lib.ListN.{length}
use borrow.Author.Tests.{eqb-true}
use Rattle.packet.specs.Lists.{AllAre}
use Rattle.packet.specs.Packets.{control, packet_of}
use Rattle.parsing.specs.Packets.{control_in, priority}
use Rattle.packet.specs.Stores.{Stores}
use Rattle.offering.specs.declared.Sender.{Sender}
use Rattle.offering.specs.Record.{slot_at, in_range}
use Rattle.offering.proofs.Ranges.{slot_in_range_facts, slot_in_range-slot_at}
use Rattle.picking.specs.Picking.{enabled, pick, served}
use Rattle.picking.proofs.PickingLaws.{pick_waits, served_in_range}
use Rattle.writing.specs.PacketParts.{packet_at}
use Rattle.writing.specs.NextFrame.{next_packet, next_frame}
use Rattle.sender.specs.Blocks.{placed_packets, Filled, full, and_then, fill, fill_up, System, system_packets, enable_bits, in_force, ruled, block_filled, block_refusal}
use Rattle.sender.proofs.Filling.{placing_cases}
use Rattle.sender.proofs.InForce.{in_force_at_most_15, accepted-ruled_in_range}
use Rattle.queues.specs.Queues.{Queues}
use Rattle.queues.specs.Effects.{BlockAsked, no_effect, packets_taken, taken_by}
use Rattle.queues.specs.Calls.{Call, offer, offer_long, block, End, fresh_end, accepted, after_call, after_calls, effect, effect_of}
use Rattle.queues.specs.Sent.{frames_of}
use Rattle.queues.specs.Stands.{Stands}
use Rattle.queues.specs.EnableBits.{enable_asked, last_or, enable_after, EnableInForce, packets_placed, PlacedEnabled}
use Rattle.queues.proofs.StandsBlock.{stands_block}
use Rattle.queues.proofs.StandsCalls.{stands_calls}
use Rattle.queues.proofs.EnableInForce.{in_force-last_or, enable_call, enable-in-force}

-- these bits enable the priority of each packet
abbrev AllEnabled : ℕ → List (List ℕ) → Type 0
AllEnabled enable ps = AllAre (λ (p : List ℕ). enabled enable (priority p) ≡ true) ps

-- the priority in a packet's control byte is its message's
priority-next_packet : (s : Sender) (store : Stores) (c : ℕ) → (slot_at s c).priority ≤ 3 → priority (next_packet s store c) ≡ (slot_at s c).priority
unfolding next_packet packet_at packet_of control control_in priority
priority-next_packet s store c few = omega arith

-- at most n frames
enabled-fill : (n : ℕ) (s : Sender) (store : Stores) (at enable u : ℕ) → in_range store.given s ≡ true
    → AllEnabled enable (placed_packets (fill n s store at enable u).frames)
unfolding fill full and_then placed_packets AllAre
enabled-fill zero s store at enable u range = tt
enabled-fill (suc n) s store at enable u range =
    placing_cases (λ (f : Filled). AllEnabled enable (placed_packets f.frames)) (pick s enable) s store at u
    (λ c. fill n (served s c) store (at + length (next_frame s store c)) enable u) tt
    (λ c p h.
    let f = pick_waits s enable c p in
    let few : (slot_at s c).priority ≤ 3 = (slot_in_range_facts (slot_at s c) (slot_in_range-slot_at _ s c range f.count)).priority in (
      ap (enabled enable) (priority-next_packet s store c few) ∙ f.enabled,
      enabled-fill n (served s c) store (at + length (next_frame s store c)) enable u (served_in_range _ s enable c range p),
    ))

-- a block, under the enable bits in force in it
enabled-block : (s : Sender) (store : Stores) (u : ℕ) (y : System) → in_range store.given (ruled s (enable_bits y)) ≡ true
    → AllEnabled (in_force s.enable (enable_bits y)) (placed_packets (block_filled s store u (system_packets y) (enable_bits y)).frames)
unfolding block_filled fill_up ruled
enabled-block s store u y range = enabled-fill _ (ruled s (enable_bits y)) store _ _ u range

-- the block of an accepted call
enabled-accepted : (call : Call) (e : End) (q : Queues) → Stands e.sender e.store q → accepted e call ≡ true
    → AllEnabled (last_or e.sender.enable (enable_asked call)) (packets_taken (frames_of (taken_by q (effect call))))
unfolding accepted effect enable_asked taken_by frames_of packets_taken AllAre
enabled-accepted (offer c priority repetition message) e q h a = tt
enabled-accepted (offer_long priority repetition message) e q h a = tt
enabled-accepted (block n u buffer y) e q h a =
    let s = e.sender in
    let z : block_refusal s e.store buffer n u y ≡ 0 = eqb-true (block_refusal s e.store buffer n u y) 0 a in
    let asked : BlockAsked = record { size = n; before = system_packets y; new_enable = enable_bits y; usable = u } in
    let same = (stands_block s e.store q asked h (in_force_at_most_15 s e.store buffer n u y z)).packets in
    rw (append-nil, ← same, ← in_force-last_or s.enable y) (enabled-block s e.store u y (accepted-ruled_in_range s e.store buffer n u y z))

-- a call, accepted or refused: the bits in force after it enable what it places
enabled_call : (call : Call) (e : End) (q : Queues) → Stands e.sender e.store q
    → AllEnabled (after_call e call).sender.enable (packets_taken (frames_of (taken_by q (effect_of e call))))
unfolding effect_of taken_by frames_of packets_taken AllAre
enabled_call call e q h = rw (enable_call call e) (go (accepted e call) refl)
  where
    go : (b : Bool) → accepted e call ≡ b
        → AllEnabled (last_or e.sender.enable (cond b (enable_asked call) [])) (packets_taken (frames_of (taken_by q (cond b (effect call) no_effect))))
    go true a = enabled-accepted call e q h a
    go false a = tt

after_calls_last : (calls : List Call) (e : End) (call : Call) → after_calls e (calls ++ call ∷ []) ≡ after_call (after_calls e calls) call
unfolding after_calls
after_calls_last [] e call = refl
after_calls_last (x ∷ calls) e call = after_calls_last calls (after_call e x) call

-- the block of a call behind any calls of a fresh sender
pub placed-enabled : PlacedEnabled
unfolding PlacedEnabled EnableInForce packets_placed
placed-enabled bytes store calls call listed =
    let e : End = fresh_end bytes store in
    let before : End = after_calls e calls in
    let bits : (after_call before call).sender.enable ≡ enable_after bytes store (calls ++ call ∷ []) =
    ap (λ (x : End). x.sender.enable) (sym (after_calls_last calls e call)) ∙ enable-in-force bytes store (calls ++ call ∷ []) in
    let placed : List (List ℕ) = packets_placed bytes store calls call in
    subst (λ enable. AllEnabled enable placed) bits (enabled_call call before _ (stands_calls bytes store calls listed))
