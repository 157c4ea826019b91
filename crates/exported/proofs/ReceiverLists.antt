-- Lists of the receiver's exported calls leave, in bytes, what document 01's calls leave: the record's bytes carry the record from call to call.
use Prim.Native.Nat.{ℕ, ◌^◌, ◌≤◌, ◌<◌}
use mathlib.Core.Bool.{Bool, true, false, cond, not}
use mathlib.Core.List.{List, [], ◌∷◌}
use mathlib.Core.Path.{◌≡◌, refl, sym, ap, subst, ◌∙◌}
use native.Mathlib.Omega.{arith}
use lib.ListN.{length}
use lib.Seq.{sets}
use lib.Dec.{eqb}
use Rattle.bits.specs.Bits.{Bytes}
use Rattle.packet.specs.Stores.{Stores}
use Rattle.receiver.specs.Reading.{read_by, read_scan, read_refusal, bits_read}
use Rattle.receiver.specs.Reads.{ReadCall, ReceiverEnd, fresh_receiver_end, after_read, after_reads}
use Rattle.receiver_layout.specs.ReceiverBytes.{receiver_length, receiver_in}
use Rattle.receiver_layout.specs.Answers.{read_answer_bytes, bits_told}
use Rattle.aes18.specs.Room.{no_room}
use Rattle.aes18.specs.ReceiverCalls.{list_record, read_answered, read_answer}
use Rattle.exported.specs.Lent.{Lent, LentRead, read_has_room, after_lent_read, after_lent_reads, reads_of}
use Rattle.exported.proofs.NoRoom.{read_refusal-below, answered_255}
use Rattle.aes18.proofs.ReceiverOutcomes.{list_short, read_short}
use Rattle.exported.proofs.ReceiverCarried.{Carried, list_carries, read_number_lem, read_told, read_carries, read-store}

-- what an accepted call tells, in bytes
abbrev pub answer_of_read : ReceiverEnd → ReadCall → List ℕ
answer_of_read s c =
    read_answer_bytes (read_by (read_scan s.receiver c.bytes c.from c.to) s.receiver s.store).notice
    (bits_read s.receiver s.store c.bytes c.from c.to)

-- they are a receiver's state, in as many bytes as were lent first
pub record CarriedEnd (bytes : List ℕ) (e : Lent) (s : ReceiverEnd) : Type 0 where
  pub receiver : Carried bytes e.bytes s.receiver
  pub store : e.store ≡ s.store

-- a call that has no room leaves the state
after_cond : (room : Bool) (s : ReceiverEnd) (c : ReadCall) (cs : List ReadCall)
    → after_reads (cond room (after_read s c) s) cs ≡ after_reads s (cond room (c ∷ cs) cs)
unfolding after_reads
after_cond true s c cs = refl
after_cond false s c cs = refl

module _ (bytes : List ℕ) (room : receiver_length ≤ length bytes) where
  module _ (e : Lent) (s : ReceiverEnd) (h : CarriedEnd bytes e s) (c : LentRead) where
    same : ◌≡◌ {A = ReceiverEnd} (record { receiver = receiver_in e.bytes; store = e.store }) s
    same = λ i. record { receiver = h.receiver.receiver i; store = h.store i }

    still : receiver_length ≤ length e.bytes
    still = omega (arith, h.receiver.long)

    -- a call answers the number of document 01's, and 255 where it has no room
    pub call_number : read_answered e.bytes e.store c.call.bytes c.call.from c.call.to c.answer
        ≡ cond (read_has_room c) (read_refusal s.receiver s.store c.call.bytes c.call.from c.call.to) no_room
    unfolding read_has_room
    call_number =
        read_number_lem e.bytes h.receiver.each still h.receiver.is e.store c.call.bytes c.call.from c.call.to c.answer
        ∙ ap (λ (s : ReceiverEnd). cond (read_has_room c) (read_refusal s.receiver s.store c.call.bytes c.call.from c.call.to) no_room) same

    -- and 255 is answered where it has no room, and nowhere else
    pub call_255 : eqb (read_answered e.bytes e.store c.call.bytes c.call.from c.call.to c.answer) no_room ≡ not (read_has_room c)
    call_255 =
        rw call_number
        (answered_255 (read_has_room c) (read_refusal s.receiver s.store c.call.bytes c.call.from c.call.to)
        (read_refusal-below s.receiver s.store c.call.bytes c.call.from c.call.to))

    -- an accepted one tells the notice and the bits read of document 01's
    pub call_answer : read_answered e.bytes e.store c.call.bytes c.call.from c.call.to c.answer ≡ 0
        → read_answer e.bytes e.store c.call.bytes c.call.from c.call.to c.answer ≡ sets c.answer 0 (answer_of_read s c.call)
    unfolding read_answer
    call_answer accepted = rw accepted (ap (λ (s : ReceiverEnd). sets c.answer 0 (answer_of_read s c.call)) same)

    -- and C reads document 01's number of bits read in it
    pub call_bits : read_answered e.bytes e.store c.call.bytes c.call.from c.call.to c.answer ≡ 0 → c.call.to < 2 ^ 64
        → bits_told (read_answer e.bytes e.store c.call.bytes c.call.from c.call.to c.answer)
        ≡ bits_read s.receiver s.store c.call.bytes c.call.from c.call.to
    call_bits accepted short =
        read_told e.bytes h.receiver.each still h.receiver.is e.store c.call.bytes c.call.from c.call.to c.answer accepted short
        ∙ ap (λ (s : ReceiverEnd). bits_read s.receiver s.store c.call.bytes c.call.from c.call.to) same

    -- every call leaves the state that document 01's leaves; one that has no room leaves it as it was
    pub call_carried : CarriedEnd bytes (after_lent_read e c) (cond (read_has_room c) (after_read s c.call) s)
    unfolding after_lent_read after_read read_has_room
    call_carried =
        let k = read_carries e.bytes h.receiver.each still h.receiver.is e.store c.call.bytes c.call.from c.call.to c.answer in
        let store = read-store e.bytes h.receiver.each still h.receiver.is e.store c.call.bytes c.call.from c.call.to c.answer in
        subst (λ (s : ReceiverEnd). CarriedEnd bytes (after_lent_read e c) (cond (read_has_room c) (after_read s c.call) s)) same
        (go (read_has_room c) k store)
      where
        old : ReceiverEnd
        old = record { receiver = receiver_in e.bytes; store = e.store }

        go : (t : Bool) → Carried e.bytes (after_lent_read e c).bytes (cond t (after_read old c.call).receiver old.receiver)
            → (after_lent_read e c).store ≡ cond t (after_read old c.call).store old.store
            → CarriedEnd bytes (after_lent_read e c) (cond t (after_read old c.call) old)
        go true k store =
            record { receiver = record { receiver = k.receiver; is = k.is; each = k.each; long = k.long ∙ h.receiver.long }; store = store }
        go false k store =
            record { receiver = record { receiver = k.receiver; is = k.is; each = k.each; long = k.long ∙ h.receiver.long }; store = store }

  reads_carried : (cs : List LentRead) (e : Lent) (s : ReceiverEnd) → CarriedEnd bytes e s
      → CarriedEnd bytes (after_lent_reads e cs) (after_reads s (reads_of cs))
  unfolding after_lent_reads after_reads reads_of
  reads_carried [] e s h = h
  reads_carried (c ∷ cs) e s h =
      subst (λ t. CarriedEnd bytes (after_lent_reads (after_lent_read e c) cs) t) (after_cond (read_has_room c) s c.call (reads_of cs))
      (reads_carried cs (after_lent_read e c) (cond (read_has_room c) (after_read s c.call) s) (call_carried e s h c))

  -- so do a listing and any reading calls after it
  pub calls_carried : Bytes bytes → (list : List ℕ) → Bytes list → (store : Stores) (cs : List LentRead)
      → CarriedEnd bytes (after_lent_reads (record { bytes = list_record bytes list; store = store }) cs) (after_reads (fresh_receiver_end list store) (reads_of cs))
  calls_carried are list listed store cs =
      reads_carried cs _ (fresh_receiver_end list store) (record { receiver = list_carries bytes are room list listed; store = refl })

-- ---- a record shorter than it has to be

-- every call is answered by 255 and leaves all as it was
module _ (bytes : List ℕ) (store : Stores) (short : length bytes < receiver_length) where
  lent : Lent
  lent = record { bytes = bytes; store = store }

  call_unchanged : (c : LentRead) → after_lent_read lent c ≡ lent
  unfolding after_lent_read lent
  call_unchanged c =
      let (number, same, kept, told) = read_short bytes store c.call.bytes c.call.from c.call.to c.answer short in
      λ i. record { bytes = sym same i; store = sym kept i }

  rest_unchanged : (cs : List LentRead) → after_lent_reads lent cs ≡ lent
  unfolding after_lent_reads
  rest_unchanged [] = refl
  rest_unchanged (c ∷ cs) = ap (λ e. after_lent_reads e cs) (call_unchanged c) ∙ rest_unchanged cs

  pub calls_unchanged : (list : List ℕ) (cs : List LentRead)
      → after_lent_reads (record { bytes = list_record bytes list; store = store }) cs ≡ record { bytes = bytes; store = store }
  unfolding lent
  calls_unchanged list cs = rw (← (list_short bytes list short).1) (rest_unchanged cs)
