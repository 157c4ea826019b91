-- What is sent and placed at a circuit, and what counting its packets means (document 01, "Messages and packets" and "What demand 3 counts").
use Rattle.std.specs.Prelude.{ℕ, suc, ◌%◌, cond, not, List, [], ◌∷◌, ◌++◌, ◌≡◌, replicate, eqb}
use Rattle.packet.specs.declared.Circuit.{Circuit}
use Rattle.packet.specs.Circuits.{alike}
use Rattle.packet.specs.Lists.{those}
use Rattle.parsing.specs.Packets.{index}
use Rattle.queues.specs.Queues.{Copy, Message, message_copies, Placed}
use Rattle.queues.specs.Effects.{TakenBlock}

-- the messages that are a circuit's, in order
unfoldable pub messages_at : Circuit → List Message → List Message
messages_at k ms = those (λ (m : Message). alike k m.circuit) ms

-- the copies of messages, joined in order
unfoldable pub copies_sent : List Message → List Copy
copies_sent [] = []
copies_sent (m ∷ ms) = message_copies m ++ copies_sent ms

-- the copies of frames placed that are a circuit's, in order
unfoldable pub placed_at : Circuit → List Placed → List Copy
placed_at k [] = []
placed_at k (p ∷ ps) = cond (alike k p.circuit) (p.copy ∷ []) [] ++ placed_at k ps

-- the numbers of the packets of copies, each once, in the order of the copies
unfoldable pub each_once : List Copy → List ℕ
each_once [] = []
each_once (c ∷ cs) = c.number ∷ those (λ i. not (eqb i c.number)) (each_once cs)

-- the frames of blocks, joined in order
unfoldable pub frames_of : List TakenBlock → List Placed
frames_of [] = []
frames_of (b ∷ bs) = b.frames ++ frames_of bs

-- a packet sent: the original, and how many copies come after it
pub record Sent : Type 0 where
  pub original : Copy
  pub repetition : ℕ

-- "Repetition .. gives that many copies after the original, all alike, before the circuit's next packet"
unfoldable pub copies_of : List Sent → List Copy
copies_of [] = []
copies_of (p ∷ ps) = replicate (suc p.repetition) p.original ++ copies_of ps

-- "The index counts a circuit's packets modulo 8": the first packet has number n, and each one's index is its number modulo 8
unfoldable pub Numbered : ℕ → List Sent → Type 0
Numbered n [] = Unit {0}
Numbered n (p ∷ ps) = (p.original.number ≡ n) × (index p.original.packet ≡ n % 8) × Numbered (suc n) ps

-- the copies are those of packets counted from n on
pub record Counted (n : ℕ) (all : List Copy) : Type 0 where
  pub packets : List Sent
  pub numbers : Numbered n packets
  pub copies : all ≡ copies_of packets
