-- The answers to block calls, by the packets that are in their blocks, with the zeros that stuffing added (document 02, ask 6).
use Rattle.std.specs.Prelude.{ℕ, ◌+◌, ◌*◌, ◌/◌, ◌≤◌, cond, List, [], ◌∷◌, ◌++◌, map, ◌≡◌, length, Result, Ok}
use Rattle.hdlc.specs.Frames.{added_in}
use Rattle.packet.specs.declared.Refusal.{Refusal}
use Rattle.packet.specs.Circuits.{listed, listing}
use Rattle.packet.specs.Stores.{Stores}
use Rattle.sender.specs.Blocks.{added_in_frames}
use Rattle.sender.specs.BlockCalls.{answer_to_block}
use Rattle.sender.specs.declared.Block.{Block}
use Rattle.queues.specs.Queues.{fresh_queues}
use Rattle.queues.specs.Effects.{TakenBlock, packets_taken, blocks_taken}
use Rattle.queues.specs.Calls.{Call, offer, offer_long, block, End, fresh_end, accepted, after_call, effects}

-- the bits used, from each packet's bytes and the zeros added to its frame: a flag, and for each frame packet and FCS, the zeros, and a flag
unfoldable pub used_for : List (List ℕ) → ℕ
used_for [] = 8
used_for (p ∷ ps) = 8 * (length p + 2) + added_in p + 8 + used_for ps

-- "one fifth of the unstuffed bits, rounded down for each frame"
unfoldable pub fifths : List (List ℕ) → ℕ
fifths [] = 0
fifths (p ∷ ps) = 8 * (length p + 2) / 5 + fifths ps

-- the answer by what is in a block: "the sum over its frames, the system frame included"
unfoldable pub answer_by_packets : TakenBlock → Result Block Refusal
answer_by_packets b =
    let packets = b.before ++ packets_taken b.frames in
    Ok (record { placed = length b.frames; used = used_for packets; zeros = added_in_frames packets })

-- the answer to a block call
unfoldable pub answer_to : End → Call → List (Result Block Refusal)
answer_to e (offer c priority repetition message) = []
answer_to e (offer_long priority repetition message) = []
answer_to e (block n u buffer y) = answer_to_block e.sender e.store buffer n u y ∷ []

-- the answers to those that are accepted, in order
unfoldable pub answers_to : End → List Call → List (Result Block Refusal)
answers_to e [] = []
answers_to e (call ∷ calls) = cond (accepted e call) (answer_to e call) [] ++ answers_to (after_call e call) calls

pub record ZerosCounted : Type 0 where
  -- whatever was listed and called, the answers are those by the system packet and the frames that the block rule takes from the queues
  pub told : (bytes : List ℕ) (store : Stores) (calls : List Call)
      → answers_to (fresh_end bytes store) calls
      ≡ map answer_by_packets (blocks_taken (fresh_queues (listed (listing bytes))) (effects (fresh_end bytes store) calls))
  -- "at most one fifth of the unstuffed bits, rounded down for each frame"
  pub fifth : (packets : List (List ℕ)) → added_in_frames packets ≤ fifths packets
