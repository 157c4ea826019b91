-- What the calls of a sender leave in the bytes of its record, and a block call in those of its answer; a refused call leaves them as they were.
use Rattle.std.specs.Prelude.{ℕ, cond, List, eqb}
use Rattle.std.proofs.lemmas.List.Edits.{sets}
use Rattle.packet.specs.Stores.{Stores}
use Rattle.offering.specs.Offering.{offer_refusal, sender_after_offer, long_refusal, sender_after_long}
use Rattle.sender.specs.Blocks.{System, block_refusal, sender_after_block}
use Rattle.sender.specs.BlockCalls.{frames_placed, bits_used, zeros_added}
use Rattle.sender_layout.specs.SenderBytes.{sender_bytes, sender_in}
use Rattle.sender_layout.specs.Answers.{block_answer_bytes}

-- the record's bytes after an offer, and after a long one
unfoldable pub record_after_offer : List ℕ → Stores → ℕ → ℕ → ℕ → List ℕ → List ℕ
record_after_offer bytes l c priority repetition message =
    cond (eqb (offer_refusal (sender_in bytes) l c priority repetition message) 0)
    (sets bytes 0 (sender_bytes (sender_after_offer (sender_in bytes) l c priority repetition message))) bytes

unfoldable pub record_after_long : List ℕ → Stores → ℕ → ℕ → List ℕ → List ℕ
record_after_long bytes l priority repetition message =
    cond (eqb (long_refusal (sender_in bytes) l priority repetition message) 0)
    (sets bytes 0 (sender_bytes (sender_after_long (sender_in bytes) l priority repetition message))) bytes

-- the record's bytes after a block call, and the answer's
unfoldable pub record_after_block : List ℕ → Stores → ℕ → ℕ → System → List ℕ → List ℕ
record_after_block bytes l n u y block =
    cond (eqb (block_refusal (sender_in bytes) l block n u y) 0) (sets bytes 0 (sender_bytes (sender_after_block (sender_in bytes) l block n u y))) bytes

unfoldable pub answer_after_block : List ℕ → Stores → ℕ → ℕ → System → List ℕ → List ℕ → List ℕ
answer_after_block bytes l n u y block answer =
    cond (eqb (block_refusal (sender_in bytes) l block n u y) 0)
    (sets answer 0 (block_answer_bytes (frames_placed (sender_in bytes) l u y) (bits_used (sender_in bytes) l u y) (zeros_added (sender_in bytes) l u y)))
    answer
