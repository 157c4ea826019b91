-- What a record and a store mean: the queues for which they stand.
use Rattle.std.specs.Prelude.{ℕ, suc, ◌+◌, ◌-◌, ◌%◌, ◌<◌, true, List, ◌≡◌, length, drop, get_or}
use Rattle.packet.specs.declared.Circuit.{Circuit}
use Rattle.packet.specs.Circuits.{no_circuit}
use Rattle.packet.specs.Messages.{packets}
use Rattle.packet.specs.Stores.{Stores}
use Rattle.offering.specs.declared.Slot.{Slot}
use Rattle.offering.specs.declared.Sender.{Sender}
use Rattle.offering.specs.Record.{slot_at, message_at, in_range, LongEnough}
use Rattle.queues.specs.Queues.{Queue, Queues, queue_at, copies_from}

-- a circuit's slot and its message stand for its queue, where every copy of `done` packets is placed: the message's packets
-- from `place` on wait, but for the first `copy` copies
pub record StandsFor (at : Circuit) (t : Slot) (text : List ℕ) (q : Queue) : Type 0 where
  pub done : ℕ
  pub circuit : q.circuit ≡ at
  pub message : length text ≡ t.length
  pub index : t.index ≡ done % 8
  pub sent : q.sent ≡ done + (packets t.length - t.place)
  pub copies :
      q.copies ≡
      drop t.copy (copies_from at t.priority text (suc t.repetition) done t.place (packets t.length - t.place))

-- record and store, with the long buffer where one is given, stand for queues: there is one for each listed circuit, and for each its slot and message stand
pub record Stands (s : Sender) (l : Stores) (q : Queues) : Type 0 where
  pub range : in_range l.given s ≡ true
  pub places : length s.circuits.list ≡ 4
  pub slots : length s.slots ≡ 4
  pub count : length q.queues ≡ s.circuits.count
  pub last : q.last ≡ s.last
  pub enable : q.enable ≡ s.enable
  pub each :
      (c : ℕ) →
      c < s.circuits.count →
      StandsFor (get_or s.circuits.list c no_circuit) (slot_at s c) (message_at s l c) (queue_at q c)

-- a record in range, with places for four circuits and slots as every record of the code, stands for queues, whatever a store of 16,384 bytes or more and
-- a long buffer of 65,535 or more hold: none that refusals 14, 5 and 19 let pass is without a meaning
unfoldable pub InRangeStands : Type 0
InRangeStands =
    (s : Sender) (l : Stores) → length s.circuits.list ≡ 4 → length s.slots ≡ 4 → LongEnough l → in_range l.given s ≡ true
    → (q : Queues) × Stands s l q
