-- What the sender's functions answer, and what they leave in the bytes lent to them. The answer is 0, the documents' number of the refusal, or 255 where
-- there is no room. A refused call leaves every lent byte as it was; only a listing writes its record all the same. l is what is lent beside
-- the record: the store alone, or with the long buffer (document 02, ask 7).
use Rattle.std.specs.Prelude.{ℕ, cond, not, ◌||◌, List, length, ltb, eqb}
use Rattle.std.proofs.lemmas.List.Edits.{sets}
use Rattle.packet.specs.Circuits.{list_refusal, listing}
use Rattle.packet.specs.Stores.{Stores}
use Rattle.offering.specs.Record.{fresh}
use Rattle.offering.specs.Offering.{offer_refusal, sender_after_offer, stores_after_offer, long_refusal, sender_after_long, stores_after_long}
use Rattle.sender.specs.Blocks.{System, block_refusal, sender_after_block, buffer_after_block}
use Rattle.sender.specs.BlockCalls.{system, frames_placed, bits_used, zeros_added}
use Rattle.sender_layout.specs.SenderBytes.{sender_length, sender_bytes, sender_in}
use Rattle.sender_layout.specs.Answers.{block_answer_length, block_answer_bytes}
use Rattle.aes18.specs.Room.{no_room}

-- ---- listing

-- the number answered
unfoldable pub list_answered : List ℕ → List ℕ → ℕ
list_answered bytes list = cond (ltb (length bytes) sender_length) no_room (list_refusal list)

-- "a refusal returns a record of no circuits"
unfoldable pub list_record : List ℕ → List ℕ → List ℕ
list_record bytes list = cond (ltb (length bytes) sender_length) bytes (sets bytes 0 (sender_bytes (fresh (listing list))))

-- ---- offering

-- the number answered
unfoldable pub offer_answered : List ℕ → Stores → ℕ → ℕ → ℕ → List ℕ → ℕ
offer_answered bytes l c priority repetition message =
    cond (ltb (length bytes) sender_length) no_room (offer_refusal (sender_in bytes) l c priority repetition message)

-- what record, store and buffer are then
unfoldable pub offer_record : List ℕ → Stores → ℕ → ℕ → ℕ → List ℕ → List ℕ
offer_record bytes l c priority repetition message =
    cond (eqb (offer_answered bytes l c priority repetition message) 0)
    (sets bytes 0 (sender_bytes (sender_after_offer (sender_in bytes) l c priority repetition message))) bytes

unfoldable pub offer_stores : List ℕ → Stores → ℕ → ℕ → ℕ → List ℕ → Stores
offer_stores bytes l c priority repetition message =
    cond (eqb (offer_answered bytes l c priority repetition message) 0) (stores_after_offer (sender_in bytes) l c priority repetition message) l

-- the same of a long offer
unfoldable pub long_answered : List ℕ → Stores → ℕ → ℕ → List ℕ → ℕ
long_answered bytes l priority repetition message =
    cond (ltb (length bytes) sender_length) no_room (long_refusal (sender_in bytes) l priority repetition message)

unfoldable pub long_record : List ℕ → Stores → ℕ → ℕ → List ℕ → List ℕ
long_record bytes l priority repetition message =
    cond (eqb (long_answered bytes l priority repetition message) 0)
    (sets bytes 0 (sender_bytes (sender_after_long (sender_in bytes) l priority repetition message))) bytes

unfoldable pub long_stores : List ℕ → Stores → ℕ → ℕ → List ℕ → Stores
long_stores bytes l priority repetition message =
    cond (eqb (long_answered bytes l priority repetition message) 0) (stores_after_long (sender_in bytes) l priority repetition message) l

-- ---- block making

-- what is asked for: no system packet where the number is 0
abbrev pub system_asked : ℕ → ℕ → ℕ → List ℕ → System
system_asked number enable code information = system (not (eqb number 0)) enable code information

-- the number answered
unfoldable pub block_answered : List ℕ → Stores → ℕ → ℕ → System → List ℕ → List ℕ → ℕ
block_answered bytes l n u y block answer =
    cond (ltb (length bytes) sender_length || ltb (length answer) block_answer_length) no_room (block_refusal (sender_in bytes) l block n u y)

-- what record, block and answer are then
unfoldable pub block_record : List ℕ → Stores → ℕ → ℕ → System → List ℕ → List ℕ → List ℕ
block_record bytes l n u y block answer =
    cond (eqb (block_answered bytes l n u y block answer) 0)
    (sets bytes 0 (sender_bytes (sender_after_block (sender_in bytes) l block n u y))) bytes

unfoldable pub block_written : List ℕ → Stores → ℕ → ℕ → System → List ℕ → List ℕ → List ℕ
block_written bytes l n u y block answer =
    cond (eqb (block_answered bytes l n u y block answer) 0) (buffer_after_block (sender_in bytes) l block n u y) block

unfoldable pub block_answer : List ℕ → Stores → ℕ → ℕ → System → List ℕ → List ℕ → List ℕ
block_answer bytes l n u y block answer =
    cond (eqb (block_answered bytes l n u y block answer) 0)
    (sets answer 0 (block_answer_bytes (frames_placed (sender_in bytes) l u y) (bits_used (sender_in bytes) l u y) (zeros_added (sender_in bytes) l u y)))
    answer
