-- No refusal of document 01 has the number 255: where a call has room, it does not answer it.
use Prim.Native.Nat.{ℕ, ◌*◌, ◌<◌}
use mathlib.Core.Bool.{Bool, true, false, cond, not, ◌||◌}
use mathlib.Core.List.{List}
use mathlib.Core.Path.{◌≡◌, refl}
use native.Mathlib.Omega.{arith}
use borrow.Author.Tests.{ne_eqb}
use lib.ListN.{length}
use lib.Dec.{leb, ltb, eqb}
use Rattle.packet.specs.Stores.{Stores, long_short}
use Rattle.packet.specs.Messages.{longest, longest_long}
use Rattle.offering.specs.declared.Sender.{Sender}
use Rattle.offering.specs.Record.{slot_at, pending, store_length, in_range}
use Rattle.offering.specs.Offering.{offer_refusal, long_refusal}
use Rattle.sender.specs.Blocks.{System, wrong_size, short_buffer, wrong_system, block_refusal}
use Rattle.queues.specs.Calls.{Call, offer, offer_long, block, End}
use Rattle.receiver.specs.declared.Receiver.{Receiver}
use Rattle.notices.specs.Stores as notices
use Rattle.receiver.specs.Record as receiver
use Rattle.receiver.specs.Reading.{read_refusal}
use Rattle.aes18.specs.Room.{no_room}
use Rattle.exported.specs.Lent.{call_refusal}

-- one of two numbers below 20
either : (t : Bool) (k : ℕ) {n : ℕ} → k < 20 → n < 20 → cond t k n < 20
either true k h i = h
either false k h i = i

module _ (s : Sender) (store : Stores) where
  offer_refusal-below : (c p r : ℕ) (message : List ℕ) → offer_refusal s store c p r message < 20
  unfolding offer_refusal
  offer_refusal-below c p r message =
      let none : 0 < 20 = omega arith in
      either (not (in_range store.given s)) 14 (omega arith)
      (either (ltb (length store.store) store_length) 5 (omega arith)
      (either (long_short store) 19 (omega arith)
      (either (not (ltb c s.circuits.count)) 6 (omega arith)
      (either (ltb 3 p) 7 (omega arith)
      (either (ltb 5 r) 8 (omega arith)
      (either (ltb longest (length message)) 9 (omega arith) (either (pending (slot_at s c)) 10 (omega arith) none)))))))

  long_refusal-below : (p r : ℕ) (message : List ℕ) → long_refusal s store p r message < 20
  unfolding long_refusal
  long_refusal-below p r message =
      let none : 0 < 20 = omega arith in
      either (not (in_range store.given s)) 14 (omega arith)
      (either (ltb (length store.store) store_length) 5 (omega arith)
      (either (not store.given || long_short store) 19 (omega arith)
      (either (eqb s.circuits.count 0) 6 (omega arith)
      (either (ltb 3 p) 7 (omega arith)
      (either (ltb 5 r) 8 (omega arith)
      (either (leb (length message) longest || ltb longest_long (length message)) 18 (omega arith)
      (either (pending (slot_at s 0)) 10 (omega arith) none)))))))

  block_refusal-below : (buffer : List ℕ) (n u : ℕ) (y : System) → block_refusal s store buffer n u y < 20
  unfolding block_refusal
  block_refusal-below buffer n u y =
      let none : 0 < 20 = omega arith in
      either (not (in_range store.given s)) 14 (omega arith)
      (either (ltb (length store.store) store_length) 5 (omega arith)
      (either (long_short store) 19 (omega arith)
      (either (wrong_size n u) 11 (omega arith)
      (either (short_buffer buffer n) 12 (omega arith) (either (wrong_system y) 13 (omega arith) none)))))

pub call_refusal-below : (s : End) (c : Call) → call_refusal s c < 20
unfolding call_refusal
call_refusal-below s (offer c p r message) = offer_refusal-below s.sender s.store c p r message
call_refusal-below s (offer_long p r message) = long_refusal-below s.sender s.store p r message
call_refusal-below s (block n u buffer y) = block_refusal-below s.sender s.store buffer n u y

pub read_refusal-below : (r : Receiver) (store : Stores) (bytes : List ℕ) (from to : ℕ) → read_refusal r store bytes from to < 20
unfolding read_refusal
read_refusal-below r store bytes from to =
    let none : 0 < 20 = omega arith in
    either (not (receiver.in_range store.given r)) 14 (omega arith)
    (either (ltb (length store.store) notices.store_length) 5 (omega arith)
    (either (long_short store) 19 (omega arith)
    (either (ltb to from || ltb (8 * length bytes) to) 15 (omega arith) none)))

-- a call that answers a refusal's number, or 255
pub answered_255 : (room : Bool) (refusal : ℕ) → refusal < 20 → eqb (cond room refusal no_room) no_room ≡ not room
unfolding no_room
answered_255 true refusal h = ne_eqb refusal 255 (λ e. omega arith)
answered_255 false refusal h = refl
