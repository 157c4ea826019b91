-- `hdlc::led::stuff_number` meets its contract. The loop's invariant: the first i bytes are put, the ones free and the FCS register are those behind them, and
-- the others stand in `rest`.
use Prim.Native.Nat.{◌-◌}
use mathlib.Core.List.{[]}
use mathlib.Core.Path.{◌≡◌}
use lib.ListN.{take, drop}
use Rattle.bits.specs.Bits.{bits_of}
use Rattle.hdlc.specs.Leads.{led}
use Rattle.hdlc.proofs.ByWriter.{Underway}
use Rattle.hdlc.proofs.led.stuff_number.Given as goal

abbrev pub invariant-loop : goal.invariant-loop
invariant-loop l =
    (drop l.counter (led l.number l.n []) ≡ led l.rest (l.n - l.counter) [])
    × Underway l.initial.buf l.initial.writer l.initial.free.ones l.initial.fcs (bits_of (take l.counter (led l.number l.n []))) l.buf l.writer l.free.ones l.fcs
