-- The bytes lent carry a receiver's record from call to call: where there is room, what the exported functions leave in them is, taken as a record, what
-- document 01's call leaves of the record that they held; and they are as many bytes, and some record's again.
use Prim.Native.Nat.{ℕ, ◌-◌, ◌^◌, ◌≤◌, ◌<◌}
use mathlib.Core.Bool.{Bool, true, false, cond}
use mathlib.Core.List.{List, [], ◌++◌}
use mathlib.Core.Path.{◌≡◌, refl, sym, ◌∙◌}
use native.Mathlib.Omega.{arith}
use borrow.Author.Tests.{lt-ltb, le-ltb, leb-true, leb-false}
use lib.ListN.{length, drop, length-drop, length-take}
use lib.Seq.{sets, slice, length-sets}
use lib.Dec.{leb, eqb}
use Rattle.bits.specs.Bits.{bits_of, Bytes}
use Rattle.bits.proofs.Bits.{bit_value_lt, Bytes_append, Bytes-drop}
use Rattle.bits.proofs.Lists.{sets_behind}
use Rattle.packet.specs.Stores.{Stores}
use Rattle.packet.specs.Circuits.{listing}
use Rattle.framing.specs.declared.Framing.{Framing}
use Rattle.notices.specs.declared.Slot.{Slot}
use Rattle.receiver.specs.declared.Receiver.{Receiver}
use Rattle.receiver.specs.Record.{fresh}
use Rattle.receiver.specs.Reading.{read_by, read_scan, read_refusal, receiver_after_read, stores_after_read, bits_read}
use Rattle.framing.proofs.Scanned.{scan-most}
use Rattle.packet.proofs.Choices.{cond_either}
use Rattle.layout.specs.Layout.{low_bytes, circuit_bytes, circuits_bytes}
use Rattle.framing_layout.specs.FramingBytes.{framing_bytes}
use Rattle.receiver_layout.specs.ReceiverBytes.{receiver_length, slot_bytes, slots_bytes, receiver_bytes, receiver_in, is_receiver}
use Rattle.receiver_layout.specs.Answers.{read_answer_length, read_answer_bytes, bits_told}
use Rattle.layout.specs.Fits.{Four}
use Rattle.receiver_layout.specs.Fits.{ReceiverSlotFits, FramingFits, ReceiverFits}
use Rattle.layout.proofs.Parts.{four_elements}
use Rattle.receiver_layout.proofs.AnswersRead.{length-read_answer_bytes, read_answer_unpacks}
use Rattle.receiver_layout.proofs.ReceiverRoundTrip.{receiver_unpacks, receiver-fits, receiver_is}
use Rattle.aes18.specs.Room.{no_room}
use Rattle.aes18.specs.ReceiverCalls.{list_record, read_answered, read_record, read_stores, read_answer}
use Rattle.exported.proofs.Fitting.{circuits_Bytes}
use Rattle.exported.proofs.ReceiverFitsKept.{fresh-fits, read_fits}

-- ---- the bytes of a record

slot_Bytes : (t : Slot) → ReceiverSlotFits t → Bytes (slot_bytes t)
unfolding slot_bytes low_bytes Bytes
slot_Bytes t fits =
    (omega (arith, bit_value_lt t.seen), (fits.last, (omega arith, (omega arith, (omega arith, (omega arith, tt))))))

slots_Bytes : (ts : List Slot) → Four ReceiverSlotFits ts → Bytes (slots_bytes ts)
unfolding slots_bytes
slots_Bytes =
    four_elements (λ ts. Bytes (slots_bytes ts))
    (λ a b c d fa fb fc fd. Bytes_append _ _ (Bytes_append _ _ (Bytes_append _ _ (slot_Bytes a fa) (slot_Bytes b fb)) (slot_Bytes c fc)) (slot_Bytes d fd))

framing-Bytes : (f : Framing) → FramingFits f → Bytes (framing_bytes f)
unfolding framing_bytes Bytes
framing-Bytes f fits = (fits.phase, (fits.ones, (fits.count, fits.bits)))

receiver-Bytes : (r : Receiver) → ReceiverFits r → Bytes (receiver_bytes r)
unfolding receiver_bytes
receiver-Bytes r fits =
    Bytes_append _ _ (Bytes_append _ _ (circuits_Bytes r.circuits fits.circuits) (slots_Bytes r.slots fits.slots))
    (framing-Bytes r.framing fits.framing)

length-receiver_bytes : (r : Receiver) → ReceiverFits r → length (receiver_bytes r) ≡ receiver_length
unfolding receiver_bytes circuits_bytes circuit_bytes slots_bytes slot_bytes low_bytes framing_bytes
length-receiver_bytes r fits = rw fits.framing.twenty_one

-- ---- a record carried

-- what is left in bytes is this record, in as many bytes
pub record Carried (bytes new : List ℕ) (r : Receiver) : Type 0 where
  pub receiver : receiver_in new ≡ r
  pub is : is_receiver new ≡ true
  pub each : Bytes new
  pub long : length new ≡ length bytes

-- no more bits are read than were asked for
bits_read-most : (r : Receiver) (store : Stores) (bits : List ℕ) (from to : ℕ) → bits_read r store bits from to ≤ to
unfolding bits_read read_scan
bits_read-most r store bits from to =
    let asked : List Bool = slice from to (bits_of bits) in
    let most : length asked ≤ to - from = rw length-drop (omega (arith, length-take to (bits_of bits))) in
    cond_either (λ n. n ≤ to) (eqb (read_refusal r store bits from to) 0) _ _ (λ _. omega (arith, scan-most asked r.framing from, most)) (λ _. omega arith)

module _ (bytes : List ℕ) (are : Bytes bytes) (room : receiver_length ≤ length bytes) where
  written_carried : (r : Receiver) → ReceiverFits r → Carried bytes (sets bytes 0 (receiver_bytes r)) r
  written_carried r fits =
      let inside : length (receiver_bytes r) ≤ length bytes = omega (arith, length-receiver_bytes r fits) in
      let behind : List ℕ = drop (length (receiver_bytes r)) bytes in
      let written : sets bytes 0 (receiver_bytes r) ≡ receiver_bytes r ++ behind = sets_behind [] bytes (receiver_bytes r) inside in
      record {
        receiver = rw written (receiver_unpacks r fits behind);
        is = rw written (receiver_is r behind);
        each = rw written (Bytes_append (receiver_bytes r) behind (receiver-Bytes r fits) (Bytes-drop (length (receiver_bytes r)) bytes are));
        long = length-sets bytes 0 (receiver_bytes r);
      }

  pub list_carries : (list : List ℕ) → Bytes list → Carried bytes (list_record bytes list) (fresh (listing list))
  unfolding list_record
  list_carries list listed = rw (le-ltb (length bytes) receiver_length room) (written_carried (fresh (listing list)) (fresh-fits list listed))

  module _ (is : is_receiver bytes ≡ true) (store : Stores) (bits : List ℕ) (from to : ℕ) (answer : List ℕ) where
    pub read_number_lem : read_answered bytes store bits from to answer
        ≡ cond (leb read_answer_length (length answer)) (read_refusal (receiver_in bytes) store bits from to) no_room
    unfolding read_answered
    read_number_lem = go (leb read_answer_length (length answer)) refl
      where
        go : (t : Bool) → leb read_answer_length (length answer) ≡ t
            → read_answered bytes store bits from to answer ≡ cond t (read_refusal (receiver_in bytes) store bits from to) no_room
        go true e = rw (le-ltb (length bytes) receiver_length room, le-ltb (length answer) read_answer_length (leb-true _ _ e), is)
        go false e = rw (le-ltb (length bytes) receiver_length room, lt-ltb (length answer) read_answer_length (leb-false _ _ e))

    -- C reads the bits read in the answer of an accepted call
    pub read_told : read_answered bytes store bits from to answer ≡ 0 → to < 2 ^ 64
        → bits_told (read_answer bytes store bits from to answer) ≡ bits_read (receiver_in bytes) store bits from to
    unfolding read_answer no_room
    read_told z h = go (leb read_answer_length (length answer)) refl
      where
        go : (t : Bool) → leb read_answer_length (length answer) ≡ t
            → bits_told (read_answer bytes store bits from to answer) ≡ bits_read (receiver_in bytes) store bits from to
        go true e =
            let r = receiver_in bytes in
            let notice = (read_by (read_scan r bits from to) r store).notice in
            let count = bits_read r store bits from to in
            let inside : length (read_answer_bytes notice count) ≤ length answer = omega (arith, length-read_answer_bytes notice count, leb-true read_answer_length (length answer) e) in
            rw (z, sets_behind [] answer (read_answer_bytes notice count) inside)
            (read_answer_unpacks notice count (omega (arith, bits_read-most r store bits from to, h)) (drop (length (read_answer_bytes notice count)) answer))
        go false e = absurd (omega (arith, rw e at (sym read_number_lem) ∙ z))

    pub read_carries : Carried bytes (read_record bytes store bits from to answer)
        (cond (leb read_answer_length (length answer)) (receiver_after_read (receiver_in bytes) store bits from to) (receiver_in bytes))
    unfolding read_record receiver_after_read no_room
    read_carries = go (leb read_answer_length (length answer)) read_number_lem
      where
        go : (t : Bool) → read_answered bytes store bits from to answer ≡ cond t (read_refusal (receiver_in bytes) store bits from to) no_room
            → Carried bytes (read_record bytes store bits from to answer)
            (cond t (receiver_after_read (receiver_in bytes) store bits from to) (receiver_in bytes))
        go true e =
            let r : Receiver = receiver_in bytes in
            rw e
            (cond_either (λ new. Carried bytes new (receiver_after_read r store bits from to)) (eqb (read_refusal r store bits from to) 0) _ _
            (λ _. written_carried (receiver_after_read r store bits from to) (read_fits r store bits from to (receiver-fits bytes are room)))
            (λ refused. record { receiver = rw refused; is = is; each = are; long = refl }))
        go false e = rw e (record { receiver = refl; is = is; each = are; long = refl })

    pub read-store : read_stores bytes store bits from to answer
        ≡ cond (leb read_answer_length (length answer)) (stores_after_read (receiver_in bytes) store bits from to) store
    unfolding read_stores stores_after_read no_room
    read-store = go (leb read_answer_length (length answer)) read_number_lem
      where
        go : (t : Bool) → read_answered bytes store bits from to answer ≡ cond t (read_refusal (receiver_in bytes) store bits from to) no_room
            → read_stores bytes store bits from to answer ≡ cond t (stores_after_read (receiver_in bytes) store bits from to) store
        go true e =
            let r : Receiver = receiver_in bytes in
            rw e
            (cond_either (λ new. new ≡ stores_after_read r store bits from to) (eqb (read_refusal r store bits from to) 0) _ _
            (λ accepted. rw accepted) (λ refused. rw refused))
        go false e = rw e
