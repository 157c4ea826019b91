-- `bits::writer::BitWriter::close` meets its contract: no bits are held, or they are stored below the byte's others.
use native.Mathlib.Omega.{arith}
use mathlib.Core.Path.{◌≡◌}
use Rattle.bits.specs.Bits.{low_bits}
use Rattle.bits.specs.Writer.{with_held}
use Rattle.bits.proofs.HeldBits.{held_stored, held_byte}
use Rattle.bits.proofs.writer.BitWriter.close.Goals as goal

pub returns-then-count-eq0 : goal.returns-then-count-eq0
unfolding with_held low_bits
returns-then-count-eq0 c =
    let z : c.args.self.count ≡ 0 = c.if-count-eq0.true in
    (omega arith, rw z)

pub overflow_cast-s : goal.overflow_cast-s
overflow_cast-s c =
    let w = c.args.self in
    record { fits = rw c.power.ensures (held_byte c.args.s.now w.byte (omega arith) w.count c.requires.0.few w.bits c.requires.0.only (omega arith)) }

pub returns : goal.returns
unfolding with_held
returns c =
    let w = c.args.self in
    (omega arith, rw c.power.ensures (held_stored c.args.s.now w.byte (omega arith) w.count c.requires.0.few w.bits c.requires.0.only))
