-- What offering and block making mean, beside any record: queues of waiting copies (document 01, "Messages and packets" and "What demand 3
-- counts"). "An accepted offer sends its message at its circuit: all copies of its packets then wait there, in order. An accepted
-- block call places frames as the block rule says, each the first copy waiting at its circuit, which then waits no more."
use Rattle.std.specs.Prelude.{ℕ, zero, suc, ◌+◌, ◌%◌, Bool, true, false, cond, List, [], ◌∷◌, ◌++◌, map, length, get_or, set, replicate, leb, eqb, Option, None, Some}
use Rattle.hdlc.specs.Frames.{flag, frame}
use Rattle.packet.specs.declared.Circuit.{Circuit}
use Rattle.packet.specs.Circuits.{alike, no_circuit}
use Rattle.packet.specs.Messages.{packets, segment, link_of}
use Rattle.packet.specs.Packets.{packet_of}
use Rattle.picking.specs.Picking.{enabled, going_round, or_else}
use Rattle.sender.specs.Blocks.{in_force}

-- a copy that waits: its packet's bytes, the packet's number at its circuit, from 0, and its priority
pub record Copy : Type 0 where
  pub packet : List ℕ
  pub number : ℕ
  pub priority : ℕ

-- what waits at a circuit, the first copy first, and how many packets were sent there so far
pub record Queue : Type 0 where
  pub circuit : Circuit
  pub copies : List Copy
  pub sent : ℕ

-- the queues by circuit number, the circuit last served, and the enable bits in force (document 02, ask 4)
pub record Queues : Type 0 where
  pub queues : List Queue
  pub last : ℕ
  pub enable : ℕ

unfoldable pub fresh_queue : Circuit → Queue
fresh_queue c = record { circuit = c; copies = []; sent = 0 }

-- a fresh sender's queues: nothing waits, circuit 0 is first, "all four enabled"
unfoldable pub fresh_queues : List Circuit → Queues
fresh_queues cs = record { queues = map fresh_queue cs; last = 3; enable = 15 }

unfoldable pub queue_at : Queues → ℕ → Queue
queue_at q c = get_or q.queues c (fresh_queue no_circuit)

-- the queue of a circuit: a fresh one where it is not listed
unfoldable pub queue_for : List Queue → Circuit → Queue
queue_for [] k = fresh_queue k
queue_for (q ∷ qs) k = cond (alike k q.circuit) q (queue_for qs k)

-- ---- offering

-- packet k of a message, where its circuit has sent `number` packets before it: "The index counts a circuit's packets modulo 8"
unfoldable pub copy_of : Circuit → ℕ → List ℕ → ℕ → ℕ → Copy
copy_of c priority message number k =
    record {
      packet = packet_of c (link_of k (packets (length message))) (number % 8) priority (segment message k);
      number = number;
      priority = priority;
    }

-- n packets of a message from packet k on, each in as many copies, "all alike, before the circuit's next packet"
unfoldable pub copies_from : Circuit → ℕ → List ℕ → ℕ → ℕ → ℕ → ℕ → List Copy
copies_from c priority message times number k zero = []
copies_from c priority message times number k (suc n) =
    replicate times (copy_of c priority message number k) ++ copies_from c priority message times (suc number) (suc k) n

-- a message sent: its circuit, priority and repetition, its bytes, and the number of its first packet at its circuit
pub record Message : Type 0 where
  pub circuit : Circuit
  pub priority : ℕ
  pub repetition : ℕ
  pub text : List ℕ
  pub first : ℕ

-- "Repetition 0 to 5 gives that many copies after the original": the copies of a message
unfoldable pub message_copies : Message → List Copy
message_copies m =
    copies_from m.circuit m.priority m.text (suc m.repetition) m.first 0 (packets (length m.text))

-- the message that an offer sends at a queue's circuit, behind the packets sent there so far
unfoldable pub message_for : Queue → ℕ → ℕ → List ℕ → Message
message_for q priority repetition message =
    record { circuit = q.circuit; priority = priority; repetition = repetition; text = message; first = q.sent }

-- the queue with its copies at the end
unfoldable pub offered : Queue → ℕ → ℕ → List ℕ → Queue
offered q priority repetition message =
    record {
      circuit = q.circuit;
      copies = q.copies ++ message_copies (message_for q priority repetition message);
      sent = q.sent + packets (length message);
    }

unfoldable pub offer_queues : Queues → ℕ → ℕ → ℕ → List ℕ → Queues
offer_queues q c priority repetition message =
    record { queues = set q.queues c (offered (queue_at q c) priority repetition message); last = q.last; enable = q.enable }

-- "10 an earlier message there still has a copy to place" (`stands_pending`)
unfoldable pub some_waits : List Copy → Bool
some_waits [] = false
some_waits (copy ∷ copies) = true

-- ---- block making

-- the first copy waiting has this priority
unfoldable pub front_has : ℕ → List Copy → Bool
front_has priority [] = false
front_has priority (copy ∷ copies) = eqb copy.priority priority

unfoldable pub first_queue : Queues → ℕ → List ℕ → Option ℕ
first_queue q priority [] = None
first_queue q priority (c ∷ cs) = cond (front_has priority (queue_at q c).copies) (Some c) (first_queue q priority cs)

unfoldable pub pick_queue_from : Queues → ℕ → List ℕ → Option ℕ
pick_queue_from q enable [] = None
pick_queue_from q enable (p ∷ ps) =
    cond (enabled enable p) (or_else (first_queue q p (going_round q.last)) (pick_queue_from q enable ps)) (pick_queue_from q enable ps)

-- "The next frame is a copy from the highest enabled priority waiting. Among equals it is the first circuit, going round by number,
-- after the one last served"
unfoldable pub pick_queue : Queues → ℕ → Option ℕ
pick_queue q enable = pick_queue_from q enable (3 ∷ 2 ∷ 1 ∷ 0 ∷ [])

-- the copies behind the first
unfoldable pub behind_first : List Copy → List Copy
behind_first [] = []
behind_first (copy ∷ copies) = copies

unfoldable pub behind : Queue → Queue
behind q = record { circuit = q.circuit; copies = behind_first q.copies; sent = q.sent }

-- circuit c is served: its first copy "waits no more"
unfoldable pub serve_queues : Queues → ℕ → Queues
serve_queues q c = record { queues = set q.queues c (behind (queue_at q c)); last = c; enable = q.enable }

-- the queues that a block takes from: its system packet's enable bits are in force, or those before it
unfoldable pub ruled_queues : Queues → Option ℕ → Queues
ruled_queues q new_enable = record { queues = q.queues; last = q.last; enable = in_force q.enable new_enable }

-- a frame placed: the circuit, and the copy
pub record Placed : Type 0 where
  pub circuit : Circuit
  pub copy : Copy

-- what a block takes: the queues then, and the frames placed, in order
pub record Taken : Type 0 where
  pub queues : Queues
  pub frames : List Placed

unfoldable pub taken_none : Queues → Taken
taken_none q = record { queues = q; frames = [] }

unfoldable pub and_taken : Placed → Taken → Taken
and_taken p t = record { queues = t.queues; frames = p ∷ t.frames }

-- the first copy waiting at circuit c, if its frame and flag do not "pass U", and what comes later
unfoldable pub taking_first : List Copy → Queues → ℕ → ℕ → ℕ → (ℕ → Taken) → Taken
taking_first [] q c at u later = taken_none q
taking_first (copy ∷ copies) q c at u later =
    let next : ℕ = at + length (frame copy.packet ++ flag) in
    cond (leb next u) (and_taken (record { circuit = (queue_at q c).circuit; copy = copy }) (later next)) (taken_none q)

unfoldable pub taking : Option ℕ → Queues → ℕ → ℕ → (ℕ → ℕ → Taken) → Taken
taking None q at u later = taken_none q
taking (Some c) q at u later = taking_first (queue_at q c).copies q c at u (later c)

-- at most n frames from bit `at` on
unfoldable pub take_up_to : ℕ → Queues → ℕ → ℕ → ℕ → Taken
take_up_to zero q at enable u = taken_none q
take_up_to (suc n) q at enable u =
    taking (pick_queue q enable) q at u (λ c next. take_up_to n (serve_queues q c) next enable u)

-- the copies that wait in all
unfoldable pub copies_in_queues : List Queue → ℕ
copies_in_queues [] = 0
copies_in_queues (q ∷ qs) = length q.copies + copies_in_queues qs

-- the frames that a block takes from bit `at` on: no more than copies wait (`take_frames-step`)
unfoldable pub take_frames : Queues → ℕ → ℕ → ℕ → Taken
take_frames q at enable u = take_up_to (copies_in_queues q.queues) q at enable u
