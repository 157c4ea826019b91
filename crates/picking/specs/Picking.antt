-- Which frame is next, and what placing it changes (document 01, "Blocks").
use Rattle.std.specs.Prelude.{ℕ, ◌+◌, ◌-◌, ◌*◌, ◌/◌, ◌%◌, ◌^◌, Bool, cond, ◌&&◌, List, [], ◌∷◌, ◌==◌, nat_lt, slice_set, Option, None, Some}
use Rattle.bits.specs.Bits.{odd}
use Rattle.packet.specs.Messages.{packets}
use Rattle.offering.specs.declared.Slot.{Slot}
use Rattle.offering.specs.declared.Sender.{Sender}
use Rattle.offering.specs.Record.{slot_at, pending}

-- enable bit A3 for priority 3 to A0 for priority 0
unfoldable pub enabled : ℕ → ℕ → Bool
enabled enable priority = odd (enable / 2 ^ priority)

-- a copy of this priority waits at this circuit number
unfoldable pub waits_at : Sender → ℕ → ℕ → Bool
waits_at s priority c = nat_lt c s.circuits.count && pending (slot_at s c) && (slot_at s c).priority == priority

-- the four numbers "going round by number, after the one last served"
unfoldable pub going_round : ℕ → List ℕ
going_round last = ((last + 1) % 4) ∷ ((last + 2) % 4) ∷ ((last + 3) % 4) ∷ ((last + 4) % 4) ∷ []

-- "Among equals it is the first circuit" of these
unfoldable pub first_waiting : Sender → ℕ → List ℕ → Option ℕ
first_waiting s priority [] = None
first_waiting s priority (c ∷ cs) = cond (waits_at s priority c) (Some c) (first_waiting s priority cs)

-- the first answer that there is
unfoldable pub or_else : Option ℕ → Option ℕ → Option ℕ
or_else (Some c) other = Some c
or_else None other = other

-- "The next frame is a copy from the highest enabled priority waiting", of priorities from high to low
unfoldable pub pick_from : Sender → ℕ → List ℕ → Option ℕ
pick_from s enable [] = None
pick_from s enable (p ∷ ps) =
    cond (enabled enable p) (or_else (first_waiting s p (going_round s.last)) (pick_from s enable ps)) (pick_from s enable ps)

-- the circuit whose frame is next, if any waits
unfoldable pub pick : Sender → ℕ → Option ℕ
pick s enable = pick_from s enable (3 ∷ 2 ∷ 1 ∷ 0 ∷ [])

-- a slot behind a copy that another of its packet follows: "Repetition 0 to 5 gives that many copies after the original .. before the circuit's
-- next packet"
abbrev pub copy_placed : Slot → Slot
copy_placed t =
    record {
      index = t.index;
      priority = t.priority;
      repetition = t.repetition;
      copy = t.copy + 1;
      length = t.length;
      place = t.place;
      left = t.left;
    }

-- and behind a packet's last copy: the index counts packets modulo 8, and a packet is left while "some copy is still to place" (document 02, ask 5)
abbrev pub packet_placed : Slot → Slot
packet_placed t =
    record {
      index = (t.index + 1) % 8;
      priority = t.priority;
      repetition = t.repetition;
      copy = 0;
      length = t.length;
      place = t.place + 1;
      left = t.left - 1;
    }

-- a copy placed
unfoldable pub advanced : Slot → Slot
advanced t = cond (nat_lt t.copy t.repetition) (copy_placed t) (packet_placed t)

-- the record after a copy of circuit c is placed
unfoldable pub served : Sender → ℕ → Sender
served s c = record { circuits = s.circuits; slots = slice_set s.slots c (advanced (slot_at s c)); last = c; enable = s.enable }

-- the copies that wait at a slot
unfoldable pub copies_waiting : Slot → ℕ
copies_waiting t = (packets t.length - t.place) * (t.repetition + 1) - t.copy
