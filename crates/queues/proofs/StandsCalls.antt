-- Lists of calls from a fresh sender: at each moment record and store stand for the queues, and no record that calls made is out of range.
use Prim.Native.Nat.{ℕ, zero, suc, ◌≤◌, ◌<◌}
use native.Mathlib.Omega.{arith}
use mathlib.Core.Bool.{Bool, true, false, cond}
use mathlib.Core.List.{List, [], ◌∷◌, ◌++◌, map}
use mathlib.Core.Path.{◌≡◌, refl, ap, ◌∙◌}
use lib.ListN.{length, take, get_or, replicate, length-append, length-take, length-map, get_or-replicate, get_or-append, get_or-map}
use lib.Seq.{get_or-take}
use lib.Dec.{eqb}
use borrow.Author.Tests.{eqb-true}
use Rattle.bits.proofs.Tests.{and_both}
use Rattle.packet.specs.declared.Circuit.{Circuit}
use Rattle.packet.specs.Circuits.{circuits_of, circuits_refusal, two_alike, list_refusal, listed, no_circuit, record_of, listing}
use Rattle.packet.specs.Messages.{longest, longest_long, header, packets}
use Rattle.packet.specs.Lists.{any_of}
use Rattle.packet.specs.Stores.{Stores}
use Rattle.packet.proofs.LongBuffers.{longest_at_bounds}
use Rattle.packet.proofs.Choices.{cond_either}
use Rattle.packet.proofs.CircuitLists.{listed-record_of, listed-listing, listing_either, listing-refusal, list_refusal-length}
use Rattle.offering.specs.declared.Sender.{Sender}
use Rattle.offering.specs.Record.{fresh_slot, fresh, no_slot, slot_at, message_of, message_at, slot_in_range, slots_in_range, in_range}
use Rattle.offering.specs.Offering.{offer_refusal, offered_sender, offered_stores, sender_after_offer, stores_after_offer, long_refusal, offered_long, sender_after_long, stores_after_long}
use Rattle.offering.proofs.Ranges.{slot_in_range_wider, facts_in_range}
use Rattle.offering.proofs.Offers.{OfferFacts, offer_refusal-zero, long_refusal-zero}
use Rattle.sender.specs.Blocks.{System, system_packets, enable_bits, block_filled, block_refusal, sender_after_block}
use Rattle.sender.proofs.InForce.{in_force_at_most_15}
use Rattle.queues.specs.Queues.{Queues, fresh_queue, fresh_queues, queue_at, copies_from}
use Rattle.queues.specs.Effects.{Effect, no_effect, sends_message, takes_frames, queues_after_effect, queues_after}
use Rattle.queues.specs.Calls.{Call, offer, offer_long, block, End, fresh_end, accepted, after_call, after_calls, effect, effect_of, effects, queues_after_calls}
use Rattle.queues.specs.Stands.{StandsFor, Stands}
use Rattle.queues.proofs.StandsOffer.{stands_offer, stands_long}
use Rattle.queues.proofs.StandsBlock.{stands_block}

-- ---- a fresh sender

fresh_slot_in_range : slot_in_range longest fresh_slot ≡ true
unfolding slot_in_range fresh_slot packets header longest
fresh_slot_in_range = refl

slots_in_range-fresh : (given : Bool) (c n k : ℕ) → n ≤ k → slots_in_range given c n (replicate k fresh_slot) ≡ true
unfolding slots_in_range
slots_in_range-fresh given c zero k h = refl
slots_in_range-fresh given c (suc n) zero h = absurd (omega arith)
slots_in_range-fresh given c (suc n) (suc k) h =
    and_both _ _ (slot_in_range_wider fresh_slot (longest_at_bounds given c).0 fresh_slot_in_range) (slots_in_range-fresh given (suc c) n k (omega arith))

StandsFor-fresh : (k : Circuit) (store : Stores) (c : ℕ) → StandsFor k fresh_slot (message_of store c fresh_slot.length) (fresh_queue k)
unfolding fresh_slot fresh_queue packets header copies_from message_of longest
StandsFor-fresh k store c = record { done = 0; circuit = refl; message = refl; index = refl; sent = refl; copies = refl }

module _ (cs : List Circuit) (few : length cs ≤ 4) (right : circuits_refusal cs ≡ 0) (store : Stores) where
  fresh_in_range : in_range store.given (fresh (record_of cs)) ≡ true
  unfolding fresh record_of
  fresh_in_range =
      facts_in_range (fresh (record_of cs))
      (record {
        count = few;
        circuits = ap circuits_refusal (listed-record_of cs few) ∙ right;
        last = omega arith;
        enable = omega arith;
        slots = slots_in_range-fresh _ 0 (length cs) 4 few;
      })

  Stands-fresh : Stands (fresh (record_of cs)) store (fresh_queues cs)
  unfolding fresh record_of fresh_queues slot_at message_at queue_at
  Stands-fresh =
      record {
        range = fresh_in_range;
        places = rw (length-take, length-append) (omega arith);
        slots = refl;
        count = length-map cs fresh_queue;
        last = refl;
        enable = refl;
        each = each;
      }
    where
      each : (c : ℕ) → c < length cs
          → StandsFor (get_or (take 4 (cs ++ replicate 4 no_circuit)) c no_circuit) (get_or (replicate 4 fresh_slot) c no_slot)
          (message_of store c (get_or (replicate 4 fresh_slot) c no_slot).length)
          (get_or (map fresh_queue cs) c (fresh_queue no_circuit))
      each c e =
          let four : c < 4 = omega arith in
          rw (
            get_or-take 4 (cs ++ replicate 4 no_circuit) c no_circuit four,
            get_or-append cs (replicate 4 no_circuit) no_circuit c e,
            get_or-replicate 4 c fresh_slot no_slot four,
            get_or-map fresh_queue cs c no_circuit,
          )
          (StandsFor-fresh (get_or cs c no_circuit) store c)

-- the record that a listing returned, and any first store
pub stands_listing : (bytes : List ℕ) (store : Stores) → Stands (fresh (listing bytes)) store (fresh_queues (listed (listing bytes)))
unfolding circuits_refusal any_of two_alike
stands_listing bytes store =
    listing_either (λ cs. Stands (fresh cs) store (fresh_queues (listed cs))) bytes
    (λ e.
    let few = (list_refusal-length bytes e).1 in
    let right : circuits_refusal (circuits_of bytes) ≡ 0 = rw (listed-listing bytes e) at (listing-refusal bytes) in
    rw (listed-record_of (circuits_of bytes) few) (Stands-fresh (circuits_of bytes) few right store))
    (rw (listed-record_of [] (omega arith)) (Stands-fresh [] (omega arith) refl store))

-- an accepted one has the circuits of its list
pub stands_fresh : (bytes : List ℕ) (store : Stores) → list_refusal bytes ≡ 0 → Stands (fresh (listing bytes)) store (fresh_queues (circuits_of bytes))
stands_fresh bytes store e = rw (listed-listing bytes e) at (stands_listing bytes store)

-- ---- calls

module _ (s : Sender) (store : Stores) (q : Queues) (h : Stands s store q) where
  stands_offer_call : (c priority repetition : ℕ) (message : List ℕ) (b : Bool)
      → eqb (offer_refusal s store c priority repetition message) 0 ≡ b
      → Stands (cond b (offered_sender s c priority repetition message) s) (cond b (offered_stores store c message) store)
      (queues_after_effect q (cond b (sends_message c priority repetition message) no_effect))
  unfolding queues_after_effect
  stands_offer_call c priority repetition message true e =
      stands_offer s store q h c priority repetition message (eqb-true (offer_refusal s store c priority repetition message) 0 e)
  stands_offer_call c priority repetition message false e = h

  stands_long_call : (priority repetition : ℕ) (message : List ℕ) (b : Bool) → eqb (long_refusal s store priority repetition message) 0 ≡ b
      → Stands (cond b (offered_sender s 0 priority repetition message) s) (cond b (offered_long store message) store)
      (queues_after_effect q (cond b (sends_message 0 priority repetition message) no_effect))
  unfolding queues_after_effect
  stands_long_call priority repetition message true e =
      stands_long s store q h priority repetition message (eqb-true (long_refusal s store priority repetition message) 0 e)
  stands_long_call priority repetition message false e = h

  stands_block_call : (n u : ℕ) (buffer : List ℕ) (y : System) (b : Bool) → eqb (block_refusal s store buffer n u y) 0 ≡ b
      → Stands (cond b (block_filled s store u (system_packets y) (enable_bits y)).sender s) store
      (queues_after_effect q (cond b (effect (block n u buffer y)) no_effect))
  unfolding queues_after_effect effect
  stands_block_call n u buffer y true e =
      (stands_block s store q _ h (in_force_at_most_15 s store buffer n u y (eqb-true (block_refusal s store buffer n u y) 0 e))).stands
  stands_block_call n u buffer y false e = h

-- record and store follow a call's effect
pub stands_call : (call : Call) (e : End) (q : Queues) → Stands e.sender e.store q
    → Stands (after_call e call).sender (after_call e call).store (queues_after_effect q (effect_of e call))
unfolding after_call effect_of effect accepted sender_after_offer stores_after_offer sender_after_long stores_after_long sender_after_block
stands_call (offer c priority repetition message) e q h =
    stands_offer_call e.sender e.store q h c priority repetition message
    (eqb (offer_refusal e.sender e.store c priority repetition message) 0) refl
stands_call (offer_long priority repetition message) e q h =
    stands_long_call e.sender e.store q h priority repetition message
    (eqb (long_refusal e.sender e.store priority repetition message) 0) refl
stands_call (block n u buffer y) e q h =
    stands_block_call e.sender e.store q h n u buffer y (eqb (block_refusal e.sender e.store buffer n u y) 0) refl

Stands-after_calls : (calls : List Call) (e : End) (q : Queues) → Stands e.sender e.store q
    → Stands (after_calls e calls).sender (after_calls e calls).store (queues_after q (effects e calls))
unfolding after_calls queues_after effects
Stands-after_calls [] e q h = h
Stands-after_calls (call ∷ calls) e q h =
    Stands-after_calls calls (after_call e call) (queues_after_effect q (effect_of e call)) (stands_call call e q h)

-- whatever was listed and called, record and store stand for the queues
pub stands_queues : (bytes : List ℕ) (store : Stores) (calls : List Call)
    → Stands (after_calls (fresh_end bytes store) calls).sender (after_calls (fresh_end bytes store) calls).store (queues_after_calls bytes store calls)
unfolding queues_after_calls
stands_queues bytes store calls =
    Stands-after_calls calls (fresh_end bytes store) (fresh_queues (listed (listing bytes))) (stands_listing bytes store)

pub stands_calls : (bytes : List ℕ) (store : Stores) (calls : List Call) → list_refusal bytes ≡ 0
    → Stands (after_calls (fresh_end bytes store) calls).sender (after_calls (fresh_end bytes store) calls).store
    (queues_after (fresh_queues (circuits_of bytes)) (effects (fresh_end bytes store) calls))
unfolding queues_after_calls
stands_calls bytes store calls e = rw (listed-listing bytes e) at (stands_queues bytes store calls)

-- an end has the long buffer in all its calls or in none
given_call : (call : Call) (e : End) → (after_call e call).store.given ≡ e.store.given
unfolding after_call stores_after_offer offered_stores stores_after_long offered_long
given_call (offer c priority repetition message) e = go (eqb (offer_refusal e.sender e.store c priority repetition message) 0)
  where
    go : (b : Bool) → (cond b (offered_stores e.store c message) e.store).given ≡ e.store.given
    go true = refl
    go false = refl
given_call (offer_long priority repetition message) e = go (eqb (long_refusal e.sender e.store priority repetition message) 0)
  where
    go : (b : Bool) → (cond b (offered_long e.store message) e.store).given ≡ e.store.given
    go true = refl
    go false = refl
given_call (block n u buffer y) e = refl

pub given_calls : (calls : List Call) (e : End) → (after_calls e calls).store.given ≡ e.store.given
unfolding after_calls
given_calls [] e = refl
given_calls (call ∷ calls) e = given_calls calls (after_call e call) ∙ given_call call e

-- "14 a record out of range ..., which no record made by calls is": with the buffer that its end has, or none
pub never_14 : (bytes : List ℕ) (store : Stores) (calls : List Call) → in_range store.given (after_calls (fresh_end bytes store) calls).sender ≡ true
never_14 bytes store calls = rw (given_calls calls (fresh_end bytes store)) at (stands_queues bytes store calls).range

-- ---- what the effects of calls keep to

-- what holds of the effects of accepted calls and of nothing
pub effect_of_cases : (P : Effect → Type 0) (call : Call) (e : End) → (accepted e call ≡ true → P (effect call)) → P no_effect → P (effect_of e call)
unfolding effect_of
effect_of_cases P call e taken refused = cond_either P (accepted e call) (effect call) no_effect taken (λ _. refused)

-- a message is sent at a listed number, and has a priority and a length that the offer's refusals let pass
unfoldable pub RightEffect : Queues → Effect → Type 0
RightEffect q no_effect = Unit {0}
RightEffect q (sends_message c priority repetition message) = (c < length q.queues) × (priority ≤ 3) × (length message ≤ longest_long)
RightEffect q (takes_frames t) = Unit {0}

unfoldable pub AllRight : Queues → List Effect → Type 0
AllRight q [] = Unit {0}
AllRight q (x ∷ xs) = RightEffect q x × AllRight (queues_after_effect q x) xs

right_accepted : (call : Call) (e : End) (q : Queues) → Stands e.sender e.store q → accepted e call ≡ true → RightEffect q (effect call)
unfolding accepted effect RightEffect
right_accepted (offer c priority repetition message) e q h a =
    let f : OfferFacts e.sender e.store c priority repetition message =
    (offer_refusal-zero e.sender e.store c priority repetition message
    (eqb-true (offer_refusal e.sender e.store c priority repetition message) 0 a)).offer in
    (omega (arith, f.circuit, h.count), f.priority, omega (arith, f.message, (longest_at_bounds e.store.given c).1))
right_accepted (offer_long priority repetition message) e q h a =
    let f : OfferFacts e.sender e.store 0 priority repetition message =
    (long_refusal-zero e.sender e.store priority repetition message
    (eqb-true (long_refusal e.sender e.store priority repetition message) 0 a)).offer in
    (omega (arith, f.circuit, h.count), f.priority, omega (arith, f.message, (longest_at_bounds e.store.given 0).1))
right_accepted (block n u buffer y) e q h a = tt

pub right_calls : (calls : List Call) (e : End) (q : Queues) → Stands e.sender e.store q → AllRight q (effects e calls)
unfolding effects RightEffect AllRight
right_calls [] e q h = tt
right_calls (call ∷ calls) e q h = (
  effect_of_cases (RightEffect q) call e (right_accepted call e q h) tt,
  right_calls calls (after_call e call) (queues_after_effect q (effect_of e call)) (stands_call call e q h),
)
