-- The answer to a block call that a number gives has that number.
use Rattle.std.proofs.Common.{◌≡◌, ℕ, ◌≤◌, Bool, true, false, List, Result, Ok, Err, eqb, cond, refl, arith}
use Rattle.packet.specs.declared.Refusal.{Refusal}
use Rattle.packet.specs.Answers.{refusal_of, answered, answer_of}
use Rattle.packet.proofs.AnswerNumbers.{answer_number-answered}
use Rattle.packet.specs.Stores.{Stores}
use Rattle.offering.specs.declared.Sender.{Sender}
use Rattle.sender.specs.Blocks.{System, block_refusal}
use Rattle.sender.specs.BlockCalls.{made_of, made_number, answer_to_block}

pub made_number-made_of : (n placed used zeros : ℕ) → n ≤ 19 → made_number (made_of n placed used zeros) ≡ n
unfolding made_number made_of
made_number-made_of n placed used zeros most = answer_number-answered n _ most

-- so has the answer to a block call
refused-most : (a b c d e f : Bool) → cond a 14 (cond b 5 (cond c 19 (cond d 11 (cond e 12 (cond f 13 0))))) ≤ 19
refused-most true b c d e f = omega arith
refused-most false true c d e f = omega arith
refused-most false false true d e f = omega arith
refused-most false false false true e f = omega arith
refused-most false false false false true f = omega arith
refused-most false false false false false true = omega arith
refused-most false false false false false false = omega arith

block_refusal-most : (s : Sender) (store : Stores) (buffer : List ℕ) (n u : ℕ) (y : System) → block_refusal s store buffer n u y ≤ 19
unfolding block_refusal
block_refusal-most s store buffer n u y = refused-most _ _ _ _ _ _

pub made_number-answer_to_block : (s : Sender) (store : Stores) (buffer : List ℕ) (n u : ℕ) (y : System)
    → made_number (answer_to_block s store buffer n u y) ≡ block_refusal s store buffer n u y
unfolding answer_to_block
made_number-answer_to_block s store buffer n u y = made_number-made_of _ _ _ _ (block_refusal-most s store buffer n u y)

-- a refusal has a number that is not 0
pub answer_of-Err : (n : ℕ) (r : Refusal) → answer_of n ≡ Err r → eqb n 0 ≡ false
unfolding answer_of answered
answer_of-Err n r = go (eqb n 0)
  where
    go : (t : Bool) → ◌≡◌ {A = Result (Unit {0}) Refusal} (cond t (Ok tt) (Err (refusal_of n))) (Err r) → t ≡ false
    go true h = cc
    go false h = refl
