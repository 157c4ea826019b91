-- `words::gathering::stored_bytes` meets its contract. The loop's invariant: what was gathered before is gathered.
use Prim.Native.Nat.{◌+◌, ◌-◌, ◌*◌}
use mathlib.Core.Bool.{Bool}
use mathlib.Core.List.{List}
use Rattle.words.specs.Gathering.{Gathers}
use Rattle.words.proofs.gathering.stored_bytes.Given as goal

abbrev pub invariant-loop-i : goal.invariant-loop-i
invariant-loop-i l = (y : List Bool) → Gathers l.g l.initial.stored y → Gathers (record { bytes = l.i; len = l.g.len + 8 * l.g.bytes - 8 * l.i; rest = l.rest }) l.stored y
