-- How the code's picking compares the circuits.
use Rattle.std.specs.Prelude.{ℕ, ◌+◌, ◌-◌, ◌*◌, ◌%◌, Bool, cond, ◌&&◌, nat_lt}
use Rattle.offering.specs.declared.Sender.{Sender}
use Rattle.offering.specs.Record.{slot_at, pending}
use Rattle.picking.specs.Picking.{enabled}

-- a copy of an enabled priority waits at this circuit number
unfoldable pub waits_enabled : Sender → ℕ → ℕ → Bool
waits_enabled s enable c = nat_lt c s.circuits.count && enabled enable (slot_at s c).priority && pending (slot_at s c)

-- the rank of a circuit number: 0 if none waits there; else the higher the priority, and among equals the sooner it comes going round
unfoldable pub rank : Sender → ℕ → ℕ → ℕ
rank s enable c = cond (waits_enabled s enable c) (4 * (slot_at s c).priority + 4 - (c + 3 - s.last) % 4) 0
