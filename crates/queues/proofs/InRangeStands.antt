-- A record in range stands for queues: at each circuit the copies that its slot tells wait, of its message where that lies, and as many packets were placed
-- before as the index says.
use Prim.Native.Nat.{ℕ, suc, ◌+◌, ◌-◌, ◌<◌}
use native.Mathlib.Omega.{arith}
use native.Mathlib.Nat.{zero-add}
use mathlib.Core.Bool.{true}
use mathlib.Core.List.{map}
use mathlib.Core.Path.{◌≡◌, refl, ◌∙◌}
use lib.ListN.{drop, get_or, length-map}
use Rattle.packet.specs.Circuits.{no_circuit}
use Rattle.packet.specs.Messages.{packets}
use Rattle.packet.specs.Stores.{Stores}
use Rattle.offering.specs.declared.Sender.{Sender}
use Rattle.offering.specs.Record.{slot_at, message_at, in_range, LongEnough}
use Rattle.offering.proofs.Ranges.{slot_in_range_facts, slot_in_range-slot_at}
use Rattle.writing.proofs.FrameLength.{length-message_at}
use Rattle.queues.specs.Queues.{Queue, fresh_queue, queue_at, copies_from}
use Rattle.queues.specs.Stands.{StandsFor, InRangeStands}
use Rattle.queues.proofs.Numbers.{numbers_from, length_numbers_from, get_or_numbers_from}

module _ (s : Sender) (store : Stores) where
  -- the queue that is told of a number
  told : ℕ → Queue
  told c =
      let k = get_or s.circuits.list c no_circuit in
      let t = slot_at s c in
      let n : ℕ = packets t.length - t.place in
      record {
        circuit = k;
        copies = drop t.copy (copies_from k t.priority (message_at s store c) (suc t.repetition) t.index t.place n);
        sent = t.index + n;
      }

  stands_told : LongEnough store → in_range store.given s ≡ true → (c : ℕ) → c < s.circuits.count
      → StandsFor (get_or s.circuits.list c no_circuit) (slot_at s c) (message_at s store c) (told c)
  unfolding told
  stands_told long range c listed =
      let f = slot_in_range_facts (slot_at s c) (slot_in_range-slot_at _ s c range listed) in
      record {
        done = (slot_at s c).index;
        circuit = refl;
        message = length-message_at s store c range listed long;
        index = omega (arith, f.index);
        sent = refl;
        copies = refl;
      }

pub in-range-stands : InRangeStands
unfolding InRangeStands queue_at
in-range-stands s store places slots long range =
    let n = s.circuits.count in
    let queues = map (told s store) (numbers_from 0 n) in (
      record { queues = queues; last = s.last; enable = s.enable },
      record {
        range = range;
        places = places;
        slots = slots;
        count = length-map (numbers_from 0 n) (told s store) ∙ length_numbers_from 0 n;
        last = refl;
        enable = refl;
        each =
            λ c listed.
            rw (get_or_numbers_from (told s store) (fresh_queue no_circuit) 0 n c listed, zero-add c) (stands_told s store long range c listed);
      },
    )
