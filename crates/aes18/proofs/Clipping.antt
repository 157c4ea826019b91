-- Numbers clipped to a byte: no call answers or leaves anything else for them, since each number that a call takes in a byte is refused far below 255.
use Prim.Native.Nat.{ℕ, ◌≤◌, ◌<◌, min}
use mathlib.Core.Bool.{Bool, true, false, cond}
use mathlib.Core.List.{List}
use mathlib.Core.Path.{◌≡◌, refl, ap, ◌∙◌}
use native.Mathlib.Omega.{arith}
use borrow.Author.Tests.{ltb-true, ltb-false, lt-ltb, le-ltb, eqb-true}
use lib.Dec.{ltb, eqb}
use Rattle.std.specs.Prelude.{Result}
use Rattle.packet.specs.declared.Refusal.{Refusal}
use Rattle.packet.specs.Answers.{answer_of}
use Rattle.packet.specs.Stores.{Stores}
use Rattle.offering.specs.declared.Sender.{Sender}
use Rattle.offering.specs.Offering.{offer_refusal, offered_sender, sender_after_offer, long_refusal, sender_after_long}
use Rattle.sender.specs.Blocks.{System, system_packets, enable_bits, wrong_system, block_refusal, sender_after_block, buffer_after_block}
use Rattle.sender.specs.BlockCalls.{system, Allowed}
use Rattle.sender_layout.specs.SenderBytes.{sender_in}
use Rattle.sender_calls.specs.Calls.{record_after_block, answer_after_block}
use Rattle.offering.proofs.Offers.{OfferFacts, offer_refusal-zero, long_refusal-zero}
use Rattle.sender.proofs.BlockRefusals.{accepted}
use Rattle.sender_calls.proofs.BlocksInPlace.{BlockMade}

-- a test against a number below 255
ltb-clipped : (k n : ℕ) → k < 255 → ltb k (min n 255) ≡ ltb k n
ltb-clipped k n h = go (ltb k n) refl
  where
    go : (t : Bool) → ltb k n ≡ t → ltb k (min n 255) ≡ t
    go true e = let l : k < n = ltb-true k n e in lt-ltb k (min n 255) (omega arith)
    go false e = let l : n ≤ k = ltb-false k n e in le-ltb k (min n 255) (omega arith)

-- the record after an offer whose number is n, which at 0 has its numbers in range
sent-clipped : (s : Sender) (l : Stores) (c p r : ℕ) (m : List ℕ) (n : ℕ) → (n ≡ 0 → OfferFacts s l c p r m)
    → cond (eqb n 0) (offered_sender s c (min p 255) (min r 255) m) s ≡ cond (eqb n 0) (offered_sender s c p r m) s
sent-clipped s l c p r m n facts-of = go (eqb n 0) refl
  where
    go : (t : Bool) → eqb n 0 ≡ t → cond t (offered_sender s c (min p 255) (min r 255) m) s ≡ cond t (offered_sender s c p r m) s
    go true e =
        let facts = facts-of (eqb-true n 0 e) in
        let same-p : min p 255 ≡ p = omega (arith, facts.priority) in
        let same-r : min r 255 ≡ r = omega (arith, facts.repetition) in
        rw (same-p, same-r)
    go false e = refl

module _ (s : Sender) (l : Stores) (c p r : ℕ) (m : List ℕ) where
  pub offer_refusal-clipped : offer_refusal s l c (min p 255) (min r 255) m ≡ offer_refusal s l c p r m
  unfolding offer_refusal
  offer_refusal-clipped = rw (ltb-clipped 3 p (omega arith), ltb-clipped 5 r (omega arith))

  pub sender_after_offer-clipped : sender_after_offer s l c (min p 255) (min r 255) m ≡ sender_after_offer s l c p r m
  unfolding sender_after_offer
  sender_after_offer-clipped =
      rw offer_refusal-clipped (sent-clipped s l c p r m (offer_refusal s l c p r m) (λ z. (offer_refusal-zero s l c p r m z).offer))

-- the same of a long offer
module _ (s : Sender) (l : Stores) (p r : ℕ) (m : List ℕ) where
  pub long_refusal-clipped : long_refusal s l (min p 255) (min r 255) m ≡ long_refusal s l p r m
  unfolding long_refusal
  long_refusal-clipped = rw (ltb-clipped 3 p (omega arith), ltb-clipped 5 r (omega arith))

  pub sender_after_long-clipped : sender_after_long s l (min p 255) (min r 255) m ≡ sender_after_long s l p r m
  unfolding sender_after_long
  sender_after_long-clipped =
      rw long_refusal-clipped (sent-clipped s l 0 p r m (long_refusal s l p r m) (λ z. (long_refusal-zero s l p r m z).offer))

-- what is asked for as a system packet, with its numbers clipped
abbrev clipped_system : Bool → ℕ → ℕ → List ℕ → System
clipped_system w e c i = system w (min e 255) (min c 255) i

module _ (s : Sender) (l : Stores) (buffer : List ℕ) (n u : ℕ) (w : Bool) (e c : ℕ) (i : List ℕ) where
  block_refusal-clipped : block_refusal s l buffer n u (clipped_system w e c i) ≡ block_refusal s l buffer n u (system w e c i)
  unfolding block_refusal wrong_system
  block_refusal-clipped = rw (ltb-clipped 15 e (omega arith), ltb-clipped 8 c (omega arith))

  -- an accepted block has the same enable bits and the same packets before ours
  same_system : block_refusal s l buffer n u (system w e c i) ≡ 0
      → (enable_bits (clipped_system w e c i) ≡ enable_bits (system w e c i)) × (system_packets (clipped_system w e c i) ≡ system_packets (system w e c i))
  unfolding enable_bits system_packets
  same_system z = go w (accepted s l buffer n u (system w e c i) z).allowed
    where
      go : (w : Bool) → (w ≡ true → Allowed e c i)
          → (enable_bits (clipped_system w e c i) ≡ enable_bits (system w e c i)) × (system_packets (clipped_system w e c i) ≡ system_packets (system w e c i))
      go true a =
          let same-e : min e 255 ≡ e = omega (arith, (a refl).enable) in
          let same-c : min c 255 ≡ c = omega (arith, (a refl).code) in
          rw (same-e, same-c) (refl, refl)
      go false a = (refl, refl)

-- a block call answers and leaves the same
pub BlockMade_clipped : (bytes : List ℕ) (l : Stores) (n u : ℕ) (w : Bool) (e c : ℕ) (i block answer : List ℕ) {number : Result (Unit {0}) Refusal} {new new_block new_answer : List ℕ}
    → BlockMade bytes l n u (clipped_system w e c i) block answer number new new_block new_answer
    → BlockMade bytes l n u (system w e c i) block answer number new new_block new_answer
unfolding record_after_block buffer_after_block answer_after_block sender_after_block
BlockMade_clipped bytes l n u w e c i block answer {number} {new} {new_block} {new_answer} (refusal, record_is, block-is, answer_is) =
    go (eqb (block_refusal s l block n u (system w e c i)) 0) refl
  where
    s : Sender
    s = sender_in bytes

    same : block_refusal s l block n u (clipped_system w e c i) ≡ block_refusal s l block n u (system w e c i)
    same = block_refusal-clipped s l block n u w e c i

    go : (t : Bool) → eqb (block_refusal s l block n u (system w e c i)) 0 ≡ t
        → BlockMade bytes l n u (system w e c i) block answer number new new_block new_answer
    go true h =
        let (same-e, same-o) = same_system s l block n u w e c i (eqb-true _ 0 h) in
        (refusal ∙ ap answer_of same, record_is ∙ rw (same, same-e, same-o), block-is ∙ rw (same, same-e, same-o), answer_is ∙ rw (same, same-e, same-o))
    go false h = (refusal ∙ ap answer_of same, record_is ∙ rw (same, h), block-is ∙ rw (same, h), answer_is ∙ rw (same, h))
