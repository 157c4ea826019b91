-- The slots judged so far are in range: what is left of them decides.
use Rattle.std.proofs.Common.{◌≡◌, ◌-◌, drop}
use Rattle.offering.specs.Record.{slots_in_range}
use Rattle.offering.proofs.slots.slots_in_range.Given as goal

abbrev pub invariant-loop-i : goal.invariant-loop-i
invariant-loop-i l = slots_in_range l.given l.i (l.count - l.i) (drop l.i l.fn.slots) ≡ slots_in_range l.given 0 l.count l.fn.slots
