-- What the sender's exported functions answer and leave where there is no room, where the call is refused and where it is accepted.
use Prim.Native.Nat.{ℕ, ◌≤◌, ◌<◌, min}
use mathlib.Core.Bool.{Bool, true, false, cond}
use mathlib.Core.List.{List}
use mathlib.Core.Path.{◌≡◌, refl, ◌∙◌}
use borrow.Author.Tests.{lt-ltb, le-ltb}
use lib.ListN.{length}
use lib.Dec.{eqb}
use Rattle.std.specs.Prelude.{Result, Some, None}
use Rattle.std.specs.Bool.{then_some}
use Rattle.packet.specs.declared.Refusal.{Refusal}
use Rattle.packet.specs.Answers.{answer_number}
use Rattle.packet.specs.Stores.{Stores}
use Rattle.offering.specs.Offering.{offer_refusal, stores_after_offer, long_refusal, stores_after_long}
use Rattle.sender.specs.Blocks.{System, block_refusal, buffer_after_block}
use Rattle.sender.specs.declared.SystemPacket.{SystemPacket}
use Rattle.sender.specs.BlockCalls.{system, asked}
use Rattle.sender_layout.specs.SenderBytes.{sender_length, sender_in}
use Rattle.sender_calls.specs.Calls.{record_after_offer, record_after_long, record_after_block, answer_after_block}
use Rattle.sender_layout.specs.Answers.{block_answer_length}
use Rattle.sender_calls.proofs.OffersInPlace.{Offered, LongOffered}
use Rattle.sender_calls.proofs.BlocksInPlace.{BlockMade, BlockMade-asked}
use Rattle.aes18.specs.Room.{no_room}
use Rattle.aes18.specs.SenderCalls.{
  list_answered,
  list_record,
  offer_answered,
  offer_record,
  offer_stores,
  long_answered,
  long_record,
  long_stores,
  block_answered,
  block_record,
  block_written,
  block_answer,
}
use Rattle.aes18.proofs.Numbers.{number_offered, number_offered_long, number_blocked}
use Rattle.aes18.proofs.Clipping.{offer_refusal-clipped, sender_after_offer-clipped, long_refusal-clipped, sender_after_long-clipped, BlockMade_clipped}

-- a choice made twice
pub cond_twice : {A : Type 0} (t : Bool) (x y : A) → cond t x y ≡ cond t (cond t x y) y
cond_twice true x y = refl
cond_twice false x y = refl

-- what a test gives is there where it holds
pub then_some-cond : {A : Type 0} (t : Bool) (a : A) → then_some t a ≡ cond t (Some a) None
then_some-cond true a = refl
then_some-cond false a = refl

-- ---- listing

module _ (bytes list : List ℕ) where
  -- what a listing answers, and the record then
  abbrev Listed : ℕ → List ℕ → Type 0
  Listed number new = (number ≡ list_answered bytes list) × (new ≡ list_record bytes list)

  pub list_short : length bytes < sender_length → Listed 255 bytes
  unfolding list_answered list_record no_room
  list_short h = rw (lt-ltb (length bytes) sender_length h) (refl, refl)

-- ---- offering

module _ (bytes : List ℕ) (l : Stores) (c p r : ℕ) (message : List ℕ) where
  -- what an offer answers, and the record and the stores then
  abbrev OfferMade : ℕ → List ℕ → Stores → Type 0
  OfferMade number new k =
      (number ≡ offer_answered bytes l c p r message) × (new ≡ offer_record bytes l c p r message) × (k ≡ offer_stores bytes l c p r message)

  pub offer_short : length bytes < sender_length → OfferMade 255 bytes l
  unfolding offer_answered offer_record offer_stores no_room
  offer_short h = rw (lt-ltb (length bytes) sender_length h) (refl, refl, refl)

  -- the offer that the code makes, with its numbers clipped
  pub offer_called : sender_length ≤ length bytes → {p' r' : ℕ} → p' ≡ min p 255 → r' ≡ min r 255 → {number : ℕ} {a : Result (Unit {0}) Refusal}
      → number ≡ answer_number a → {new : List ℕ} {k : Stores} → Offered bytes l c p' r' message a new k → OfferMade number new k
  unfolding offer_answered offer_record offer_stores record_after_offer stores_after_offer
  offer_called h {p'} {r'} e f {a = a} n (x, y, z) =
      rw (le-ltb (length bytes) sender_length h) (
        number_offered (sender_in bytes) l c p' r' message _ a n x ∙ rw (e, f, offer_refusal-clipped (sender_in bytes) l c p r message),
        y ∙ rw (e, f, offer_refusal-clipped (sender_in bytes) l c p r message, sender_after_offer-clipped (sender_in bytes) l c p r message),
        z ∙ rw (e, f, offer_refusal-clipped (sender_in bytes) l c p r message) (cond_twice (eqb (offer_refusal (sender_in bytes) l c p r message) 0) _ l),
      )

-- the same of a long offer
module _ (bytes : List ℕ) (l : Stores) (p r : ℕ) (message : List ℕ) where
  abbrev LongMade : ℕ → List ℕ → Stores → Type 0
  LongMade number new k =
      (number ≡ long_answered bytes l p r message) × (new ≡ long_record bytes l p r message) × (k ≡ long_stores bytes l p r message)

  pub offer_long_short : length bytes < sender_length → LongMade 255 bytes l
  unfolding long_answered long_record long_stores no_room
  offer_long_short h = rw (lt-ltb (length bytes) sender_length h) (refl, refl, refl)

  pub long_called : sender_length ≤ length bytes → {p' r' : ℕ} → p' ≡ min p 255 → r' ≡ min r 255 → {number : ℕ} {a : Result (Unit {0}) Refusal}
      → number ≡ answer_number a → {new : List ℕ} {k : Stores} → LongOffered bytes l p' r' message a new k → LongMade number new k
  unfolding long_answered long_record long_stores record_after_long stores_after_long
  long_called h {p'} {r'} e f {a = a} n (x, y, z) =
      rw (le-ltb (length bytes) sender_length h) (
        number_offered_long (sender_in bytes) l p' r' message _ a n x ∙ rw (e, f, long_refusal-clipped (sender_in bytes) l p r message),
        y ∙ rw (e, f, long_refusal-clipped (sender_in bytes) l p r message, sender_after_long-clipped (sender_in bytes) l p r message),
        z ∙ rw (e, f, long_refusal-clipped (sender_in bytes) l p r message) (cond_twice (eqb (long_refusal (sender_in bytes) l p r message) 0) _ l),
      )

-- ---- block making

module _ (bytes : List ℕ) (l : Stores) (n u : ℕ) (y : System) (block answer : List ℕ) where
  -- what a block call answers, and the record, the block and the answer's bytes then
  abbrev Blocked : ℕ → List ℕ → List ℕ → List ℕ → Type 0
  Blocked number new new_block new_answer =
      (number ≡ block_answered bytes l n u y block answer) × (new ≡ block_record bytes l n u y block answer)
      × (new_block ≡ block_written bytes l n u y block answer) × (new_answer ≡ block_answer bytes l n u y block answer)

  pub block_short : length bytes < sender_length → Blocked 255 bytes block answer
  unfolding block_answered block_record block_written block_answer no_room
  block_short h = rw (lt-ltb (length bytes) sender_length h) (refl, refl, refl, refl)

  block_long : sender_length ≤ length bytes → block_answer_length ≤ length answer → {number : ℕ} {a : Result (Unit {0}) Refusal} → number ≡ answer_number a
      → {new new_block new_answer : List ℕ} → BlockMade bytes l n u y block answer a new new_block new_answer → Blocked number new new_block new_answer
  unfolding block_answered block_record block_written block_answer record_after_block buffer_after_block answer_after_block
  block_long h room {a = a} e (refusal, record_is, block-is, answer_is) =
      rw (le-ltb (length bytes) sender_length h, le-ltb (length answer) block_answer_length room) (
        number_blocked (sender_in bytes) l block n u y _ a e refusal,
        record_is,
        block-is ∙ cond_twice (eqb (block_refusal (sender_in bytes) l block n u y) 0) _ block,
        answer_is,
      )

-- the block call that the code makes, with its numbers clipped
pub block_called : (bytes : List ℕ) (l : Stores) (n u : ℕ) (w : Bool) (enable code : ℕ) (information block answer : List ℕ) → sender_length ≤ length bytes
    → block_answer_length ≤ length answer → (packet : SystemPacket) → packet.enable ≡ min enable 255 → packet.code ≡ min code 255
    → packet.information.now ≡ information → {number : ℕ} {a : Result (Unit {0}) Refusal} → number ≡ answer_number a → {new new_block new_answer : List ℕ}
    → BlockMade bytes l n u (asked (cond w (Some packet) None)) block answer a new new_block new_answer
    → Blocked bytes l n u (system w enable code information) block answer number new new_block new_answer
block_called bytes l n u w enable code information block answer h room packet f g i e made =
    block_long bytes l n u (system w enable code information) block answer h room e
    (BlockMade_clipped bytes l n u w enable code information block answer (rw (f, g, i) at (BlockMade-asked bytes l n u block answer w packet made)))
