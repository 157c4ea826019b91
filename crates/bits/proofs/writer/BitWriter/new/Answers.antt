-- `bits::writer::BitWriter::new` meets its contract: the byte's own bits, written, change nothing.
use Prim.Native.Nat.{◌/◌, ◌%◌}
use native.Mathlib.Nat.{mod-lt}
use native.Mathlib.Omega.{arith}
use lib.ListN.{get_or}
use lib.Pow.{pow_pos}
use Rattle.bits.specs.Writer.{with_held}
use Rattle.bits.proofs.HeldBits.{own_held}
use Rattle.bits.proofs.writer.BitWriter.new.Goals as goal

pub returns : goal.returns
unfolding with_held
returns c =
    let a = c.args in
    let s = a.s.now in
    let i = a.at / 8 in
    let k = a.at % 8 in (
      record { few = omega arith; only = rw c.power.ensures (mod-lt (get_or s i 0) (pow_pos k)) },
      omega arith,
      rw c.power.ensures (own_held s i (omega arith) k (omega arith)),
    )
