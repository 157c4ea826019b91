-- `bits::writer::BitWriter::put` meets its contract: one byte is full and stored, or two are.
use native.Mathlib.Omega.{arith}
use Rattle.bits.proofs.HeldBits.{one_full, two_full}
use Rattle.bits.proofs.writer.BitWriter.put.Goals as goal

pub returns-then-count-lt8 : goal.returns-then-count-lt8
returns-then-count-lt8 c =
    rw c.power.ensures
    (one_full c.args.self c.requires.0 c.args.n c.args.value c.requires.3 c.requires.4 c.args.s.now (omega arith) c.requires.2 c.if-count-lt8.true)

pub returns : goal.returns
returns c =
    rw c.power.ensures
    (two_full c.args.self c.requires.0 c.args.n c.args.value c.requires.3 c.requires.4 c.args.s.now (omega arith) c.if-count-lt8.false)
