-- The packets still to go at a circuit, counted in its queue, copies of a packet once (document 02, ask 5).
use Rattle.std.specs.Prelude.{ℕ, ◌<◌, List, ◌≡◌, length}
use Rattle.packet.specs.Stores.{Stores}
use Rattle.offering.specs.declared.Sender.{Sender}
use Rattle.offering.specs.Record.{slot_at}
use Rattle.queues.specs.Queues.{Queues, queue_at}
use Rattle.queues.specs.Calls.{Call, fresh_end, after_calls, queues_after_calls}
use Rattle.queues.specs.Stands.{Stands}
use Rattle.queues.specs.Sent.{each_once}

-- "In every record made by calls it equals the packets of which some copy is still to place": whatever was listed and called, at every number
unfoldable pub LeftCounts : Type 0
LeftCounts =
    (bytes : List ℕ) (store : Stores) (calls : List Call) (c : ℕ)
    → (slot_at (after_calls (fresh_end bytes store) calls).sender c).left ≡ length (each_once (queue_at (queues_after_calls bytes store calls) c).copies)

-- "a record in which it differs counts as outside its range": every record that stands for queues, as one in range does (`InRangeStands`), has their
-- packets at each circuit
unfoldable pub LeftStands : Type 0
LeftStands =
    (s : Sender) (store : Stores) (q : Queues) → Stands s store q → (c : ℕ) → c < s.circuits.count
    → (slot_at s c).left ≡ length (each_once (queue_at q c).copies)
