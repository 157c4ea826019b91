-- The fields of a sender's record fit their types: those of a listing do, and an offer and a block call keep them so.
use mathlib.Core.Path.{◌≡◌, refl}
use Prim.Native.Nat.{ℕ, zero, suc, ◌+◌}
use native.Mathlib.Omega.{arith}
use mathlib.Core.Bool.{Bool, true, false, cond}
use mathlib.Core.List.{List}
use Rattle.std.proofs.Common.{Some}
use lib.ListN.{length}
use lib.Dec.{eqb}
use borrow.Author.Tests.{eqb-true}
use Rattle.bits.specs.Bits.{Bytes}
use Rattle.packet.specs.Stores.{Stores}
use Rattle.packet.specs.Circuits.{listing}
use Rattle.packet.specs.Messages.{longest_long}
use Rattle.packet.proofs.Lists.{AllAre-replicate}
use Rattle.packet.proofs.Segments.{packets-most}
use Rattle.packet.proofs.LongBuffers.{longest_at_bounds}
use Rattle.packet.proofs.Choices.{cond_either}
use Rattle.offering.specs.declared.Slot.{Slot}
use Rattle.offering.specs.declared.Sender.{Sender}
use Rattle.offering.specs.Record.{slot_at, fresh_slot, fresh, in_range}
use Rattle.offering.specs.Offering.{offer_refusal, offered_slot, offered_sender, sender_after_offer, long_refusal, sender_after_long}
use Rattle.offering.proofs.Ranges.{SlotFacts, slot_in_range_facts, slot_in_range-wide}
use Rattle.offering.proofs.Offers.{OfferFacts, offer_refusal-zero, long_refusal-zero}
use Rattle.picking.specs.Picking.{pick, advanced, served}
use Rattle.picking.proofs.PickingLaws.{pick_waits, pick_lt, slot_in_range-advanced, served_in_range}
use Rattle.writing.specs.NextFrame.{next_frame}
use Rattle.sender.specs.Blocks.{Filled, System, system_packets, enable_bits, ruled, full, and_then, fill, waiting, fill_up, block_filled, block_refusal, sender_after_block}
use Rattle.sender.proofs.Filling.{placing_cases}
use Rattle.sender.proofs.InForce.{in_force_at_most_15, accepted-ruled_in_range}
use Rattle.sender_layout.specs.Fits.{SenderSlotFits, SenderFits}
use Rattle.exported.proofs.Fitting.{Four-set, listing-fits}

-- ---- listing

pub fits_fresh : (list : List ℕ) → Bytes list → SenderFits (fresh (listing list))
unfolding fresh fresh_slot
fits_fresh list are =
    record {
      circuits = listing-fits list are;
      slots =
          record {
            four = refl;
            each =
                AllAre-replicate SenderSlotFits 4 fresh_slot
                (record {
                  index = omega arith;
                  priority = omega arith;
                  repetition = omega arith;
                  copy = omega arith;
                  length_fits = omega arith;
                  place = omega arith;
                  left = omega arith;
                });
          };
      last = omega arith;
      enable = omega arith;
    }

-- ---- a slot in range

slot_fits : (t : Slot) → SlotFacts longest_long t → SenderSlotFits t
unfolding longest_long
slot_fits t f =
    record {
      index = omega (arith, f.index);
      priority = omega (arith, f.priority);
      repetition = omega (arith, f.repetition);
      copy = omega (arith, f.copy, f.repetition);
      length_fits = omega (arith, f.short);
      place = omega (arith, f.place, packets-most t.length f.short);
      left = omega (arith, f.left, packets-most t.length f.short);
    }

-- ---- offering

fits-sent : (s : Sender) (store : Stores) (c p r : ℕ) (message : List ℕ) → OfferFacts s store c p r message → SenderFits s
    → SenderFits (offered_sender s c p r message)
unfolding offered_slot offered_sender
fits-sent s store c p r message f fits =
    let t = slot_in_range_facts (slot_at s c) (slot_in_range-wide store.given s c f.in_range f.circuit) in
    record {
      circuits = fits.circuits;
      slots =
          Four-set SenderSlotFits s.slots c _
          (slot_fits _
          (record {
            index = t.index;
            priority = f.priority;
            repetition = f.repetition;
            short = omega (arith, f.message, (longest_at_bounds store.given c).1);
            place = omega arith;
            copy = omega arith;
            left = omega arith;
          }))
          fits.slots;
      last = fits.last;
      enable = fits.enable;
    }

pub fits-offered : (s : Sender) (store : Stores) (c p r : ℕ) (message : List ℕ) → SenderFits s → SenderFits (sender_after_offer s store c p r message)
unfolding sender_after_offer
fits-offered s store c p r message fits =
    cond_either SenderFits (eqb (offer_refusal s store c p r message) 0) _ _
    (λ e. fits-sent s store c p r message (offer_refusal-zero s store c p r message (eqb-true _ 0 e)).offer fits) (λ _. fits)

pub fits-offered_long : (s : Sender) (store : Stores) (p r : ℕ) (message : List ℕ) → SenderFits s → SenderFits (sender_after_long s store p r message)
unfolding sender_after_long
fits-offered_long s store p r message fits =
    cond_either SenderFits (eqb (long_refusal s store p r message) 0) _ _
    (λ e. fits-sent s store 0 p r message (long_refusal-zero s store p r message (eqb-true _ 0 e)).offer fits) (λ _. fits)

-- ---- block making

fits-served : (given : Bool) (s : Sender) (enable c : ℕ) → in_range given s ≡ true → pick s enable ≡ Some c → SenderFits s → SenderFits (served s c)
unfolding served
fits-served given s enable c range p fits =
    let f = pick_waits s enable c p in
    let t = slot_in_range_facts _ (slot_in_range-advanced _ (slot_at s c) (slot_in_range-wide given s c range f.count) f.pending) in
    record {
      circuits = fits.circuits;
      slots = Four-set SenderSlotFits s.slots c (advanced (slot_at s c)) (slot_fits (advanced (slot_at s c)) t) fits.slots;
      last = omega (arith, pick_lt given s enable c range p);
      enable = fits.enable;
    }

fits_filled : (n : ℕ) (s : Sender) (store : Stores) (at enable u : ℕ) → in_range store.given s ≡ true → SenderFits s → SenderFits (fill n s store at enable u).sender
unfolding fill full and_then
fits_filled zero s store at enable u range fits = fits
fits_filled (suc n) s store at enable u range fits =
    placing_cases (λ (f : Filled). SenderFits f.sender) (pick s enable) s store at u
    (λ c. fill n (served s c) store (at + length (next_frame s store c)) enable u) fits
    (λ c p h.
    fits_filled n (served s c) store (at + length (next_frame s store c)) enable u (served_in_range store.given s enable c range p)
    (fits-served store.given s enable c range p fits))

pub fits-made : (s : Sender) (store : Stores) (block : List ℕ) (n u : ℕ) (y : System) → SenderFits s → SenderFits (sender_after_block s store block n u y)
unfolding sender_after_block block_filled fill_up ruled
fits-made s store block n u y fits = go (eqb (block_refusal s store block n u y) 0) refl
  where
    under : Sender
    under = ruled s (enable_bits y)

    go : (t : Bool) → eqb (block_refusal s store block n u y) 0 ≡ t → SenderFits (cond t (block_filled s store u (system_packets y) (enable_bits y)).sender s)
    go true e =
        let z : block_refusal s store block n u y ≡ 0 = eqb-true _ 0 e in
        fits_filled (waiting under) under store _ _ u (accepted-ruled_in_range s store block n u y z)
        (record { circuits = fits.circuits; slots = fits.slots; last = fits.last; enable = omega (arith, in_force_at_most_15 s store block n u y z) })
    go false e = fits
