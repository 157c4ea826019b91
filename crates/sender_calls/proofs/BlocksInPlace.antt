-- A block made by the sender in the bytes: what a refused call and an accepted one answer and leave.
use Rattle.std.proofs.Common.{◌≡◌, ℕ, Bool, true, false, cond, List, None, Some, Result, Ok, Err, eqb, refl, sym, ap, ◌∙◌}
use lib.Seq.{sets}
use Rattle.packet.specs.declared.Refusal.{Refusal}
use Rattle.packet.specs.Answers.{answered, answer_of}
use Rattle.packet.specs.Stores.{Stores}
use Rattle.offering.specs.declared.Sender.{Sender}
use Rattle.sender.specs.declared.Block.{Block}
use Rattle.sender.specs.declared.SystemPacket.{SystemPacket}
use Rattle.sender.specs.Blocks.{System, system_packets, enable_bits, wrong_system, block_refusal, sender_after_block, buffer_after_block}
use Rattle.sender.specs.BlockCalls.{system, asked, BlockWritten}
use Rattle.sender.proofs.MadeNumbers.{answer_of-Err}
use Rattle.sender_layout.specs.SenderBytes.{sender_bytes, sender_in}
use Rattle.sender_layout.specs.Answers.{block_answer_bytes}
use Rattle.sender_calls.specs.Calls.{record_after_block, answer_after_block}

-- what a block call answers, and the record's bytes, the block and the answer's bytes then
abbrev pub BlockMade : List ℕ → Stores → ℕ → ℕ → System → List ℕ → List ℕ → Result (Unit {0}) Refusal → List ℕ → List ℕ → List ℕ → Type 0
BlockMade bytes l n u y block answer r new new_block new_answer =
    (r ≡ answer_of (block_refusal (sender_in bytes) l block n u y)) × (new ≡ record_after_block bytes l n u y block)
    × (new_block ≡ buffer_after_block (sender_in bytes) l block n u y) × (new_answer ≡ answer_after_block bytes l n u y block answer)

module _ (bytes : List ℕ) (l : Stores) (n u : ℕ) (block answer : List ℕ) where
  module _ (y : System) where
    pub block_refused : (e : Refusal) → answer_of (block_refusal (sender_in bytes) l block n u y) ≡ Err e
        → BlockMade bytes l n u y block answer (Err e) bytes block answer
    unfolding record_after_block buffer_after_block answer_after_block
    block_refused e is =
        let no : eqb (block_refusal (sender_in bytes) l block n u y) 0 ≡ false = answer_of-Err _ e is in
        (sym is, rw no refl, rw no refl, rw no refl)

    pub block-accepted : {s : Sender} → s ≡ sender_in bytes → block_refusal s l block n u y ≡ 0 → {new_block : List ℕ} {after : Sender} {b : Block}
        → BlockWritten s l block n u y new_block after b → {new new_answer : List ℕ} → new ≡ sets bytes 0 (sender_bytes after)
        → new_answer ≡ sets answer 0 (block_answer_bytes b.placed b.used b.zeros)
        → BlockMade bytes l n u y block answer (Ok tt) new new_block new_answer
    unfolding answer_of answered record_after_block answer_after_block
    block-accepted in_is none w New-is answer_is =
        rw (← in_is, none) (
          refl,
          New-is ∙ ap (λ t. sets bytes 0 (sender_bytes t)) w.sender,
          w.buffer,
          answer_is ∙ rw (w.placed, w.used, w.zeros),
        )

  -- what is said of a request with a system packet, if one is wanted, is said of the numbers that it has
  pub BlockMade-asked : (wanted : Bool) (packet : SystemPacket) {r : Result (Unit {0}) Refusal} {new new_block new_answer : List ℕ}
      → BlockMade bytes l n u (asked (cond wanted (Some packet) None)) block answer r new new_block new_answer
      → BlockMade bytes l n u (system wanted packet.enable packet.code packet.information.now) block answer r new new_block new_answer
  unfolding asked record_after_block buffer_after_block answer_after_block sender_after_block block_refusal wrong_system system_packets enable_bits
  BlockMade-asked true packet m = m
  BlockMade-asked false packet m = m
