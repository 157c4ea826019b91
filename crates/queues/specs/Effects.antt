-- What calls do to the queues, and what is sent and placed by it (document 01, "What demand 3 counts").
use Rattle.std.specs.Prelude.{ℕ, Bool, List, [], ◌∷◌, ◌++◌, map, length, Option}
use Rattle.sender.specs.Blocks.{flagged_frames, block_of}
use Rattle.queues.specs.Queues.{Message, message_for, Queues, queue_at, offer_queues, ruled_queues, Placed, Taken, take_frames}

-- what a block takes its frames by: its size N, the packets that stand before ours, the enable bits of the system packet among them, if there is
-- one, and U
pub record BlockAsked : Type 0 where
  pub size : ℕ
  pub before : List (List ℕ)
  pub new_enable : Option ℕ
  pub usable : ℕ

-- what a call does to the queues: nothing; it sends a message, of a priority and a repetition, at a circuit number; or it takes the frames of a block
pub data Effect : Type 0 where
  no_effect : Effect
  sends_message : ℕ → ℕ → ℕ → List ℕ → Effect
  takes_frames : BlockAsked → Effect

-- ---- taking

-- the frames that the block rule takes from the queues under the enable bits in force, behind those of the packets before them
unfoldable pub taken_for : Queues → BlockAsked → Taken
taken_for q t =
    let under = ruled_queues q t.new_enable in
    take_frames under (length (flagged_frames t.before)) under.enable t.usable

-- a block by what is in it: N, the packets that stand before ours, and our frames
pub record TakenBlock : Type 0 where
  pub size : ℕ
  pub before : List (List ℕ)
  pub frames : List Placed

-- the packets of frames placed, in order
unfoldable pub packets_taken : List Placed → List (List ℕ)
packets_taken ps = map (λ (p : Placed). p.copy.packet) ps

-- its N bits
unfoldable pub bits_of_block : TakenBlock → List Bool
bits_of_block b = block_of b.size (b.before ++ packets_taken b.frames)

-- ---- effects

-- "all copies of its packets then wait there"; "which then waits no more"
unfoldable pub queues_after_effect : Queues → Effect → Queues
queues_after_effect q no_effect = q
queues_after_effect q (sends_message c priority repetition message) = offer_queues q c priority repetition message
queues_after_effect q (takes_frames t) = (taken_for q t).queues

-- "An accepted offer sends its message at its circuit"
unfoldable pub sent_by : Queues → Effect → List Message
sent_by q no_effect = []
sent_by q (sends_message c priority repetition message) = message_for (queue_at q c) priority repetition message ∷ []
sent_by q (takes_frames t) = []

-- "An accepted block call places frames as the block rule says, each the first copy waiting at its circuit"
unfoldable pub taken_by : Queues → Effect → List TakenBlock
taken_by q no_effect = []
taken_by q (sends_message c priority repetition message) = []
taken_by q (takes_frames t) = record { size = t.size; before = t.before; frames = (taken_for q t).frames } ∷ []

-- of effects, one after another: the queues then, the messages sent and the blocks taken, in order
unfoldable pub queues_after : Queues → List Effect → Queues
queues_after q [] = q
queues_after q (x ∷ xs) = queues_after (queues_after_effect q x) xs

unfoldable pub messages_sent : Queues → List Effect → List Message
messages_sent q [] = []
messages_sent q (x ∷ xs) = sent_by q x ++ messages_sent (queues_after_effect q x) xs

unfoldable pub blocks_taken : Queues → List Effect → List TakenBlock
blocks_taken q [] = []
blocks_taken q (x ∷ xs) = taken_by q x ++ blocks_taken (queues_after_effect q x) xs
