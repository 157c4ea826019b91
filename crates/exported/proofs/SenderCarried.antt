-- The bytes lent carry a sender's record from call to call: where there is room, what the exported functions leave in them is, taken as a record, what
-- document 01's call leaves of the record that they held; and they are as many bytes.
use mathlib.Core.Path.{◌≡◌, refl, sym, ◌∙◌}
use Prim.Native.Nat.{ℕ, ◌≤◌}
use mathlib.Core.Bool.{Bool, true, false, cond}
use mathlib.Core.List.{List, [], ◌∷◌, ◌++◌}
use lib.ListN.{length, drop}
use lib.Seq.{sets, length-sets}
use lib.Dec.{leb, eqb}
use native.Mathlib.Omega.{arith}
use borrow.Author.Tests.{lt-ltb, le-ltb, leb-true, leb-false}
use Rattle.bits.specs.Bits.{Bytes}
use Rattle.bits.proofs.Bits.{Bytes_append, Bytes-drop}
use Rattle.bits.proofs.Lists.{sets_behind}
use Rattle.packet.specs.Stores.{Stores}
use Rattle.packet.specs.Circuits.{listing}
use Rattle.offering.specs.declared.Slot.{Slot}
use Rattle.offering.specs.declared.Sender.{Sender}
use Rattle.offering.specs.Record.{fresh}
use Rattle.offering.specs.Offering.{offer_refusal, offered_stores, sender_after_offer, stores_after_offer, long_refusal, offered_long, sender_after_long, stores_after_long}
use Rattle.sender.specs.Blocks.{System, system_packets, enable_bits, block_bits, block_buffer, block_refusal, sender_after_block, buffer_after_block}
use Rattle.sender.specs.BlockCalls.{frames_placed, bits_used, zeros_added}
use Rattle.layout.specs.Layout.{low_bytes, circuit_bytes, circuits_bytes}
use Rattle.sender_layout.specs.SenderBytes.{sender_length, slot_bytes, slots_bytes, sender_bytes, sender_in}
use Rattle.sender_layout.specs.Answers.{block_answer_length, block_answer_bytes, placed_told, used_told, zeros_told}
use Rattle.layout.specs.Fits.{Four}
use Rattle.sender_layout.specs.Fits.{SenderSlotFits, SenderFits}
use Rattle.layout.proofs.Parts.{four_elements}
use Rattle.sender_layout.proofs.SenderRoundTrip.{sender_unpacks, sender-fits}
use Rattle.aes18.specs.Room.{no_room}
use Rattle.aes18.specs.SenderCalls.{list_record, offer_answered, offer_record, offer_stores, long_answered, long_record, long_stores, block_answered, block_record, block_written, block_answer}
use Rattle.sender_layout.proofs.AnswersRead.{length-block_answer_bytes, block_answer_unpacks}
use Rattle.exported.proofs.BlockAnswers.{used_fits, placed_fits, zeros_fits}
use Rattle.exported.proofs.Fitting.{low_bytes-Bytes, circuits_Bytes}
use Rattle.exported.proofs.SenderFitsKept.{fits_fresh, fits-offered, fits-offered_long, fits-made}

-- ---- a record that fits is laid out in bytes

slot_Bytes : (t : Slot) → SenderSlotFits t → Bytes (slot_bytes t)
unfolding Bytes slot_bytes
slot_Bytes t f =
    let two = Bytes_append (low_bytes 2 t.length) (low_bytes 2 t.place) (low_bytes-Bytes 2 t.length) (low_bytes-Bytes 2 t.place) in
    let words = Bytes_append (low_bytes 2 t.length ++ low_bytes 2 t.place) (low_bytes 2 t.left) two (low_bytes-Bytes 2 t.left) in
    (f.index, (f.priority, (f.repetition, (f.copy, words))))

slots_Bytes : (ts : List Slot) → Four SenderSlotFits ts → Bytes (slots_bytes ts)
unfolding slots_bytes
slots_Bytes =
    four_elements (λ ts. Bytes (slots_bytes ts))
    (λ a b c d fa fb fc fd.
    Bytes_append _ _ (Bytes_append _ _ (Bytes_append _ _ (slot_Bytes a fa) (slot_Bytes b fb)) (slot_Bytes c fc)) (slot_Bytes d fd))

sender-Bytes : (s : Sender) → SenderFits s → Bytes (sender_bytes s)
unfolding Bytes sender_bytes
sender-Bytes s f =
    let circuits = circuits_bytes s.circuits in
    let slots = slots_bytes s.slots in
    Bytes_append (circuits ++ slots) (s.last ∷ s.enable ∷ [])
    (Bytes_append circuits slots (circuits_Bytes s.circuits f.circuits) (slots_Bytes s.slots f.slots))
    (f.last, (f.enable, tt))

length-sender_bytes : (s : Sender) → length (sender_bytes s) ≡ sender_length
unfolding sender_bytes circuits_bytes circuit_bytes slots_bytes slot_bytes low_bytes
length-sender_bytes s = refl

-- ---- what is carried

-- what is left in bytes is this record, in as many bytes
pub record Carried (bytes new : List ℕ) (s : Sender) : Type 0 where
  pub sender : sender_in new ≡ s
  pub each : Bytes new
  pub long : length new ≡ length bytes

module _ (bytes : List ℕ) (are : Bytes bytes) (long : sender_length ≤ length bytes) where
  -- a record is written
  written : (s : Sender) → SenderFits s → Carried bytes (sets bytes 0 (sender_bytes s)) s
  written s fits =
      let v = sender_bytes s in
      let short : length v ≤ length bytes = rw length-sender_bytes long in
      let is : sets bytes 0 v ≡ v ++ drop (length v) bytes = sets_behind [] bytes v short in
      record {
        sender = rw is (sender_unpacks s fits (drop (length v) bytes));
        each = rw is (Bytes_append v (drop (length v) bytes) (sender-Bytes s fits) (Bytes-drop (length v) bytes are));
        long = length-sets bytes 0 v;
      }

  -- or left, where the call is refused
  written_or_left : (accepted : Bool) (s : Sender) → SenderFits s → (accepted ≡ false → sender_in bytes ≡ s)
      → Carried bytes (cond accepted (sets bytes 0 (sender_bytes s)) bytes) s
  written_or_left true s fits same = written s fits
  written_or_left false s fits same = record { sender = same refl; each = are; long = refl }

  pub list_carries : (list : List ℕ) → Bytes list → Carried bytes (list_record bytes list) (fresh (listing list))
  unfolding list_record
  list_carries list all = rw (le-ltb (length bytes) sender_length long) (written (fresh (listing list)) (fits_fresh list all))

  pub offer_carries : (store : Stores) (c p r : ℕ) (message : List ℕ)
      → Carried bytes (offer_record bytes store c p r message) (sender_after_offer (sender_in bytes) store c p r message)
  unfolding offer_record offer_answered sender_after_offer
  offer_carries store c p r message =
      rw (le-ltb (length bytes) sender_length long)
      (written_or_left (eqb (offer_refusal (sender_in bytes) store c p r message) 0) (sender_after_offer (sender_in bytes) store c p r message)
      (fits-offered (sender_in bytes) store c p r message (sender-fits bytes are)) (λ e. rw e))

  pub long_carries : (store : Stores) (p r : ℕ) (message : List ℕ)
      → Carried bytes (long_record bytes store p r message) (sender_after_long (sender_in bytes) store p r message)
  unfolding long_record long_answered sender_after_long
  long_carries store p r message =
      rw (le-ltb (length bytes) sender_length long)
      (written_or_left (eqb (long_refusal (sender_in bytes) store p r message) 0) (sender_after_long (sender_in bytes) store p r message)
      (fits-offered_long (sender_in bytes) store p r message (sender-fits bytes are)) (λ e. rw e))

  pub block_carries : (store : Stores) (n u : ℕ) (y : System) (block answer : List ℕ)
      → Carried bytes (block_record bytes store n u y block answer)
      (cond (leb block_answer_length (length answer)) (sender_after_block (sender_in bytes) store block n u y) (sender_in bytes))
  unfolding block_record block_answered sender_after_block no_room
  block_carries store n u y block answer = go (leb block_answer_length (length answer)) refl
    where
      go : (t : Bool) → leb block_answer_length (length answer) ≡ t
          → Carried bytes (block_record bytes store n u y block answer) (cond t (sender_after_block (sender_in bytes) store block n u y) (sender_in bytes))
      go true e =
          rw (le-ltb (length bytes) sender_length long, le-ltb (length answer) block_answer_length (leb-true _ _ e))
          (written_or_left (eqb (block_refusal (sender_in bytes) store block n u y) 0) (sender_after_block (sender_in bytes) store block n u y)
          (fits-made (sender_in bytes) store block n u y (sender-fits bytes are)) (λ e. rw e))
      go false e =
          rw (le-ltb (length bytes) sender_length long, lt-ltb (length answer) block_answer_length (leb-false _ _ e))
          (record { sender = refl; each = are; long = refl })

-- ---- the number answered, the store, the block and its answer

-- what a call leaves is asked for twice, and once is enough
twice : {A : Type 0} (t : Bool) (x y : A) → cond t (cond t x y) y ≡ cond t x y
twice true x y = refl
twice false x y = refl

module _ (bytes : List ℕ) (long : sender_length ≤ length bytes) (store : Stores) where
  pub offer_answers : (c p r : ℕ) (message : List ℕ) → (offer_answered bytes store c p r message ≡ offer_refusal (sender_in bytes) store c p r message)
      × (offer_stores bytes store c p r message ≡ stores_after_offer (sender_in bytes) store c p r message)
  unfolding offer_answered offer_stores stores_after_offer
  offer_answers c p r message =
      rw (le-ltb (length bytes) sender_length long)
      (refl, twice (eqb (offer_refusal (sender_in bytes) store c p r message) 0) (offered_stores store c message) store)

  pub long_answers : (p r : ℕ) (message : List ℕ) → (long_answered bytes store p r message ≡ long_refusal (sender_in bytes) store p r message)
      × (long_stores bytes store p r message ≡ stores_after_long (sender_in bytes) store p r message)
  unfolding long_answered long_stores stores_after_long
  long_answers p r message =
      rw (le-ltb (length bytes) sender_length long)
      (refl, twice (eqb (long_refusal (sender_in bytes) store p r message) 0) (offered_long store message) store)

  module _ (n u : ℕ) (y : System) (block answer : List ℕ) where
    pub block_answers : (block_answered bytes store n u y block answer
        ≡ cond (leb block_answer_length (length answer)) (block_refusal (sender_in bytes) store block n u y) no_room)
        × (block_written bytes store n u y block answer
        ≡ cond (leb block_answer_length (length answer)) (buffer_after_block (sender_in bytes) store block n u y) block)
    unfolding block_answered block_written buffer_after_block no_room
    block_answers = go (leb block_answer_length (length answer)) refl
      where
        go : (t : Bool) → leb block_answer_length (length answer) ≡ t
            → (block_answered bytes store n u y block answer ≡ cond t (block_refusal (sender_in bytes) store block n u y) no_room)
            × (block_written bytes store n u y block answer ≡ cond t (buffer_after_block (sender_in bytes) store block n u y) block)
        go true e =
            rw (le-ltb (length bytes) sender_length long, le-ltb (length answer) block_answer_length (leb-true _ _ e))
            (refl, twice (eqb (block_refusal (sender_in bytes) store block n u y) 0) (block_buffer block (block_bits (sender_in bytes) store n u (system_packets y) (enable_bits y))) block)
        go false e =
            rw (le-ltb (length bytes) sender_length long, lt-ltb (length answer) block_answer_length (leb-false _ _ e)) (refl, refl)

    -- C reads the frames placed, the bits used and the added zeros in the answer of an accepted call
    pub block-told : block_answered bytes store n u y block answer ≡ 0
        → (placed_told (block_answer bytes store n u y block answer) ≡ frames_placed (sender_in bytes) store u y)
        × (used_told (block_answer bytes store n u y block answer) ≡ bits_used (sender_in bytes) store u y)
        × (zeros_told (block_answer bytes store n u y block answer) ≡ zeros_added (sender_in bytes) store u y)
    unfolding block_answer no_room
    block-told z = go (leb block_answer_length (length answer)) refl
      where
        go : (t : Bool) → leb block_answer_length (length answer) ≡ t
            → (placed_told (block_answer bytes store n u y block answer) ≡ frames_placed (sender_in bytes) store u y)
            × (used_told (block_answer bytes store n u y block answer) ≡ bits_used (sender_in bytes) store u y)
            × (zeros_told (block_answer bytes store n u y block answer) ≡ zeros_added (sender_in bytes) store u y)
        go true e =
            let s = sender_in bytes in
            let accepted : block_refusal s store block n u y ≡ 0 = rw e at (sym block_answers.0) ∙ z in
            let placed = frames_placed s store u y in
            let used = bits_used s store u y in
            let zeros = zeros_added s store u y in
            let v = block_answer_bytes placed used zeros in
            let inside : length v ≤ length answer = omega (arith, length-block_answer_bytes placed used zeros, leb-true block_answer_length (length answer) e) in
            rw (z, sets_behind [] answer v inside)
            (block_answer_unpacks placed used zeros (placed_fits s store block n u y accepted) (used_fits s store block n u y accepted)
            (zeros_fits s store block n u y accepted) (drop (length v) answer))
        go false e = absurd (omega (arith, rw e at (sym block_answers.0) ∙ z))
