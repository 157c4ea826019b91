-- Offers: what is known of one that is accepted, and what a refused and an accepted one leave; of a long one too.
use mathlib.Core.Path.{◌≡◌, refl}
use Prim.Native.Nat.{ℕ, suc, ◌+◌, ◌*◌, ◌≤◌, ◌<◌}
use native.Mathlib.Omega.{arith}
use mathlib.Core.Bool.{Bool, true, false, cond, not, ◌||◌, true≢false}
use mathlib.Core.List.{List}
use lib.Dec.{leb, ltb, eqb}
use lib.ListN.{length}
use borrow.Author.Tests.{ltb-true, ltb-false, leb-false, not-false, eqb-false}
use Rattle.std.specs.Prelude.{Result, Ok, Err}
use Rattle.packet.specs.declared.Refusal.{Refusal}
use Rattle.packet.specs.Answers.{refusal_of, answered, answer_of}
use Rattle.packet.proofs.AnswerNumbers.{answer_of-Ok}
use Rattle.packet.specs.Messages.{longest, longest_long}
use Rattle.packet.specs.Stores.{region, Stores, takes_long, longest_at, long_short}
use Rattle.packet.proofs.LongBuffers.{longest_at_bounds}
use Rattle.offering.specs.declared.Sender.{Sender}
use Rattle.offering.specs.Record.{slot_at, pending, in_range, store_length}
use Rattle.offering.specs.Offering.{
  bounds_refusal,
  offer_refusal,
  offered_sender,
  offered_stores,
  sender_after_offer,
  stores_after_offer,
  long_bounds_refusal,
  long_refusal,
  offered_long,
  sender_after_long,
  stores_after_long,
}
use Rattle.offering.proofs.Ranges.{in_range_facts}

-- what is known where an offer is accepted
pub record OfferFacts (s : Sender) (l : Stores) (c p r : ℕ) (m : List ℕ) : Type 0 where
  pub in_range : in_range l.given s ≡ true
  pub store : 16384 ≤ length l.store
  pub circuit : c < s.circuits.count
  pub priority : p ≤ 3
  pub repetition : r ≤ 5
  pub message : length m ≤ longest_at l.given c
  pub free : pending (slot_at s c) ≡ false

-- a choice that gives 0 passed over a number that is not 0
cond-zero : (b : Bool) (n m : ℕ) → cond b (suc n) m ≡ 0 → (b ≡ false) × (m ≡ 0)
cond-zero true n m e = absurd (omega arith)
cond-zero false n m e = (refl, e)

-- a message that an offer may have is no longer than any number may have
no_longer : (given : Bool) (c n : ℕ) → n ≤ longest → n ≤ longest_at given c
no_longer given c n h = omega (arith, (longest_at_bounds given c).0)

-- neither of two that are not both false
or_neither : (a b : Bool) → (a || b) ≡ false → (a ≡ false) × (b ≡ false)
or_neither true b e = absurd (true≢false e)
or_neither false b e = (refl, e)

-- what a call leaves that an answer refuses
refused_keeps : {A : Type 0} (n : ℕ) (e : Refusal) (after before : A) → answer_of n ≡ Err e → before ≡ cond (eqb n 0) after before
unfolding answer_of answered
refused_keeps {A} n e after before = go (eqb n 0)
  where
    go : (t : Bool) → ◌≡◌ {A = Result (Unit {0}) Refusal} (cond t (Ok tt) (Err (refusal_of n))) (Err e) → before ≡ cond t after before
    go true h = absurd cc
    go false h = refl

module _ (s : Sender) (l : Stores) (c p r : ℕ) (m : List ℕ) where
  pub record ShortFacts : Type 0 where
    pub offer : OfferFacts s l c p r m
    pub short : length m ≤ longest

  pub offer_refusal-zero : offer_refusal s l c p r m ≡ 0 → ShortFacts
  unfolding offer_refusal store_length region
  offer_refusal-zero e =
      let (t₁₄, e₁) = cond-zero _ 13 _ e in
      let (t₅, e₂) = cond-zero _ 4 _ e₁ in
      let (t₁₉, e₃) = cond-zero (long_short l) 18 _ e₂ in
      let (t₆, e₄) = cond-zero _ 5 _ e₃ in
      let (t₇, e₅) = cond-zero _ 6 _ e₄ in
      let (t₈, e₆) = cond-zero _ 7 _ e₅ in
      let (t₉, e₇) = cond-zero _ 8 _ e₆ in
      let (t₁₀, e₈) = cond-zero _ 9 _ e₇ in
      record {
        offer =
            record {
              in_range = not-false _ t₁₄;
              store = ltb-false _ _ t₅;
              circuit = ltb-true _ _ (not-false _ t₆);
              priority = ltb-false _ _ t₇;
              repetition = ltb-false _ _ t₈;
              message = no_longer l.given c (length m) (ltb-false _ _ t₉);
              free = t₁₀;
            };
        short = ltb-false _ _ t₉;
      }

  -- the circuit is one of four, and the message has its place in the circuit's region
  pub offer_room : offer_refusal s l c p r m ≡ 0 → (c < 4) × (length m ≤ longest_long) × (region * c + length m ≤ length l.store)
  unfolding region longest longest_long
  offer_room e =
      let facts = offer_refusal-zero e in
      let four = in_range_facts _ facts.offer.in_range in
      (omega arith, omega arith, omega arith)

  pub accepted_room : (u : Unit {0}) → answer_of (offer_refusal s l c p r m) ≡ Ok u
      → (c < 4) × (length m ≤ longest_long) × (region * c + length m ≤ length l.store)
  accepted_room u e = offer_room (answer_of-Ok _ u e)

  -- the record and the stores of a refused offer
  pub offer_refused : (e : Refusal) → answer_of (offer_refusal s l c p r m) ≡ Err e
      → (s ≡ sender_after_offer s l c p r m) × (l ≡ stores_after_offer s l c p r m)
  unfolding sender_after_offer stores_after_offer
  offer_refused e h = (refused_keeps _ e _ _ h, refused_keeps _ e _ _ h)

  -- the same of an accepted one
  pub offer_accepted : (u : Unit {0}) → answer_of (offer_refusal s l c p r m) ≡ Ok u
      → (offered_sender s c p r m ≡ sender_after_offer s l c p r m) × (offered_stores l c m ≡ stores_after_offer s l c p r m)
  unfolding sender_after_offer stores_after_offer
  offer_accepted u e = rw (answer_of-Ok _ u e) (refl, refl)

  -- an offer to a sender in range that keeps the bounds: its circuit, and its refusal, which is left to a pending message
  module _ (range : in_range l.given s ≡ true) where
    -- bounds that are kept
    bounds_refusal-zero : bounds_refusal l s.circuits.count c p r m ≡ 0
        → (ltb (length l.store) store_length ≡ false)
        × (long_short l ≡ false)
        × (not (ltb c s.circuits.count) ≡ false)
        × (ltb 3 p ≡ false)
        × (ltb 5 r ≡ false)
        × (ltb longest (length m) ≡ false)
    unfolding bounds_refusal
    bounds_refusal-zero e =
        let (t₅, e₁) = cond-zero _ 4 _ e in
        let (t₁₉, e₂) = cond-zero (long_short l) 18 _ e₁ in
        let (t₆, e₃) = cond-zero _ 5 _ e₂ in
        let (t₇, e₄) = cond-zero _ 6 _ e₃ in
        let (t₈, e₅) = cond-zero _ 7 _ e₄ in
        let (t₉, e₆) = cond-zero _ 8 _ e₅ in
        (t₅, t₁₉, t₆, t₇, t₈, t₉)

    pub bounds_circuit : (u : Unit {0}) → answer_of (bounds_refusal l s.circuits.count c p r m) ≡ Ok u → c < 4
    bounds_circuit u h =
        let (t₅, t₁₉, t₆, t₇, t₈, t₉) = bounds_refusal-zero (answer_of-Ok _ u h) in
        omega (arith, ltb-true c s.circuits.count (not-false _ t₆), (in_range_facts s range).count)

    pub bounds-accepted : (u : Unit {0}) → answer_of (bounds_refusal l s.circuits.count c p r m) ≡ Ok u
        → offer_refusal s l c p r m ≡ cond (pending (slot_at s c)) 10 0
    unfolding offer_refusal
    bounds-accepted u h =
        let (t₅, t₁₉, t₆, t₇, t₈, t₉) = bounds_refusal-zero (answer_of-Ok _ u h) in
        rw (range, t₅, t₁₉, t₆, t₇, t₈, t₉)

module _ (s : Sender) (l : Stores) (p r : ℕ) (m : List ℕ) where
  -- a long offer that is accepted has a buffer in which its message, a long one, has its place
  pub record LongFacts : Type 0 where
    pub offer : OfferFacts s l 0 p r m
    pub above : longest < length m
    pub given : l.given ≡ true
    pub place : length m ≤ length l.long

  pub long_refusal-zero : long_refusal s l p r m ≡ 0 → LongFacts
  unfolding long_refusal long_short store_length region longest_at takes_long
  long_refusal-zero e =
      let (t₁₄, e₁) = cond-zero _ 13 _ e in
      let (t₅, e₂) = cond-zero _ 4 _ e₁ in
      let (t₁₉, e₃) = cond-zero (not l.given || long_short l) 18 _ e₂ in
      let (t₆, e₄) = cond-zero _ 5 _ e₃ in
      let (t₇, e₅) = cond-zero _ 6 _ e₄ in
      let (t₈, e₆) = cond-zero _ 7 _ e₅ in
      let (t₁₈, e₇) = cond-zero _ 17 _ e₆ in
      let (t₁₀, e₈) = cond-zero _ 9 _ e₇ in
      let (none, less) = or_neither _ _ t₁₉ in
      let (below, beyond) = or_neither _ _ t₁₈ in
      let given : l.given ≡ true = not-false _ none in
      let most : length m ≤ longest_long = ltb-false _ _ beyond in
      let enough : longest_long ≤ length l.long = ltb-false _ _ (rw given at less) in
      let some : s.circuits.count ≡ 0 → ⊥ = eqb-false _ _ t₆ in
      record {
        offer =
            record {
              in_range = not-false _ t₁₄;
              store = ltb-false _ _ t₅;
              circuit = omega arith;
              priority = ltb-false _ _ t₇;
              repetition = ltb-false _ _ t₈;
              message = rw given most;
              free = t₁₀;
            };
        above = leb-false _ _ below;
        given = given;
        place = omega arith;
      }

  -- the message has its place in the buffer
  pub long_room : (u : Unit {0}) → answer_of (long_refusal s l p r m) ≡ Ok u → (length m ≤ longest_long) × (length m ≤ length l.long)
  long_room u e =
      let facts = long_refusal-zero (answer_of-Ok _ u e) in
      (omega (arith, facts.offer.message, (longest_at_bounds l.given 0).1), facts.place)

  -- the record and the stores of a refused long offer
  pub long_refused : (e : Refusal) → answer_of (long_refusal s l p r m) ≡ Err e → (s ≡ sender_after_long s l p r m) × (l ≡ stores_after_long s l p r m)
  unfolding sender_after_long stores_after_long
  long_refused e h = (refused_keeps _ e _ _ h, refused_keeps _ e _ _ h)

  -- the same of an accepted one
  pub long_accepted : (u : Unit {0}) → answer_of (long_refusal s l p r m) ≡ Ok u
      → (offered_sender s 0 p r m ≡ sender_after_long s l p r m) × (offered_long l m ≡ stores_after_long s l p r m)
  unfolding sender_after_long stores_after_long
  long_accepted u e = rw (answer_of-Ok _ u e) (refl, refl)

  -- a long offer to a sender in range that keeps the bounds is refused where a message is pending
  module _ (range : in_range l.given s ≡ true) where
    -- bounds that are kept
    long_bounds_refusal-zero : long_bounds_refusal l s.circuits.count p r m ≡ 0
        → (ltb (length l.store) store_length ≡ false)
        × ((not l.given || long_short l) ≡ false)
        × (eqb s.circuits.count 0 ≡ false)
        × (ltb 3 p ≡ false)
        × (ltb 5 r ≡ false)
        × ((leb (length m) longest || ltb longest_long (length m)) ≡ false)
    unfolding long_bounds_refusal
    long_bounds_refusal-zero e =
        let (t₅, e₁) = cond-zero _ 4 _ e in
        let (t₁₉, e₂) = cond-zero (not l.given || long_short l) 18 _ e₁ in
        let (t₆, e₃) = cond-zero _ 5 _ e₂ in
        let (t₇, e₄) = cond-zero _ 6 _ e₃ in
        let (t₈, e₅) = cond-zero _ 7 _ e₄ in
        let (t₁₈, e₆) = cond-zero (leb (length m) longest || ltb longest_long (length m)) 17 _ e₅ in
        (t₅, t₁₉, t₆, t₇, t₈, t₁₈)

    pub long_bounds-accepted : (u : Unit {0}) → answer_of (long_bounds_refusal l s.circuits.count p r m) ≡ Ok u
        → long_refusal s l p r m ≡ cond (pending (slot_at s 0)) 10 0
    unfolding long_refusal
    long_bounds-accepted u h =
        let (t₅, t₁₉, t₆, t₇, t₈, t₁₈) = long_bounds_refusal-zero (answer_of-Ok _ u h) in
        rw (range, t₅, t₁₉, t₆, t₇, t₈, t₁₈)
