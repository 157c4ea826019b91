-- Lists of exported calls on the bytes of one record and one store, with a long buffer beside it or none, and document 01's and 02's calls that they are.
-- `calls_carried` of each end says that they leave, in bytes, what these calls leave. Whether an end has a buffer says which function its offers, blocks and
-- reads are; a long offer of one that has none is no exported call, and has the refusal of one whose buffer is too short.
use Rattle.std.specs.Prelude.{ℕ, Bool, true, cond, List, [], ◌∷◌, length, leb}
use Rattle.packet.specs.Stores.{Stores}
use Rattle.offering.specs.Offering.{offer_refusal, long_refusal}
use Rattle.sender.specs.Blocks.{block_refusal}
use Rattle.queues.specs.Calls.{Call, offer, offer_long, block, End}
use Rattle.receiver.specs.Reads.{ReadCall}
use Rattle.sender_layout.specs.Answers.{block_answer_length}
use Rattle.receiver_layout.specs.Answers.{read_answer_length}
use Rattle.aes18.specs.SenderCalls.{offer_answered, offer_record, offer_stores, long_answered, long_record, long_stores, block_answered, block_record}
use Rattle.aes18.specs.ReceiverCalls.{read_record, read_stores}

-- a record's bytes between two calls, and the store with the long buffer where one is given
pub record Lent : Type 0 where
  pub bytes : List ℕ
  pub store : Stores

-- ---- the sender

-- a call, and the bytes lent for its answer
pub record LentCall : Type 0 where
  pub call : Call
  pub answer : List ℕ

-- the number answered
unfoldable pub call_answered : Lent → Call → List ℕ → ℕ
call_answered e (offer c p r message) answer = offer_answered e.bytes e.store c p r message
call_answered e (offer_long p r message) answer = long_answered e.bytes e.store p r message
call_answered e (block n u buffer y) answer = block_answered e.bytes e.store n u y buffer answer

-- the documents' refusal
unfoldable pub call_refusal : End → Call → ℕ
call_refusal s (offer c p r message) = offer_refusal s.sender s.store c p r message
call_refusal s (offer_long p r message) = long_refusal s.sender s.store p r message
call_refusal s (block n u buffer y) = block_refusal s.sender s.store buffer n u y

-- the answer has room; an offer needs none
unfoldable pub call_has_room : Call → List ℕ → Bool
call_has_room (offer c p r message) answer = true
call_has_room (offer_long p r message) answer = true
call_has_room (block n u buffer y) answer = leb block_answer_length (length answer)

unfoldable pub after_lent_call : Lent → Call → List ℕ → Lent
after_lent_call e (offer c p r message) answer =
    record { bytes = offer_record e.bytes e.store c p r message; store = offer_stores e.bytes e.store c p r message }
after_lent_call e (offer_long p r message) answer =
    record { bytes = long_record e.bytes e.store p r message; store = long_stores e.bytes e.store p r message }
after_lent_call e (block n u buffer y) answer = record { bytes = block_record e.bytes e.store n u y buffer answer; store = e.store }

unfoldable pub after_lent_calls : Lent → List LentCall → Lent
after_lent_calls e [] = e
after_lent_calls e (c ∷ cs) = after_lent_calls (after_lent_call e c.call c.answer) cs

-- the documents' calls among them: one that has no room, and is answered by 255, is none
unfoldable pub calls_of : List LentCall → List Call
calls_of [] = []
calls_of (c ∷ cs) = cond (call_has_room c.call c.answer) (c.call ∷ calls_of cs) (calls_of cs)

-- ---- the receiver

-- a reading call, and the bytes lent for its answer
pub record LentRead : Type 0 where
  pub call : ReadCall
  pub answer : List ℕ

-- the answer has room
unfoldable pub read_has_room : LentRead → Bool
read_has_room c = leb read_answer_length (length c.answer)

unfoldable pub after_lent_read : Lent → LentRead → Lent
after_lent_read e c =
    record {
      bytes = read_record e.bytes e.store c.call.bytes c.call.from c.call.to c.answer;
      store = read_stores e.bytes e.store c.call.bytes c.call.from c.call.to c.answer;
    }

unfoldable pub after_lent_reads : Lent → List LentRead → Lent
after_lent_reads e [] = e
after_lent_reads e (c ∷ cs) = after_lent_reads (after_lent_read e c) cs

-- the documents' calls among them: one that has no room, and is answered by 255, is none
unfoldable pub reads_of : List LentRead → List ReadCall
reads_of [] = []
reads_of (c ∷ cs) = cond (read_has_room c) (c.call ∷ reads_of cs) (reads_of cs)
