-- `sender::blocks::put_opening` meets its contract: a flag, and behind it the system packet's frame if one is wanted.
use Rattle.std.proofs.Common.{None, Some, refl, arith}
use Rattle.hdlc.proofs.Ending.{length-flag}
use Rattle.sender.specs.BlockCalls.{asked}
use Rattle.sender.proofs.OpeningBits.{Room-system, OpeningWritten-flag, OpeningWritten-system}
use Rattle.sender.proofs.blocks.put_opening.Goals as goal

pub put_flag-at-requires : goal.put_flag-at-requires
put_flag-at-requires c = omega (arith, length-flag)

pub put_system-requires-clause-room : goal.put_system-requires-clause-room
unfolding asked
put_system-requires-clause-room c =
    Room-system (asked (Some c.in-Some.packet)) c.requires.bound (rw c.in-Some.is at c.requires.allowed) c.put_flag-at.ensures c.put_flag-at.auto.buf

pub returns-in-Some : goal.returns-in-Some
unfolding asked
returns-in-Some c = rw c.in-Some.is (OpeningWritten-system (asked (Some c.in-Some.packet)) refl c.put_flag-at.ensures c.put_system.ensures)

pub returns-in-None : goal.returns-in-None
unfolding asked
returns-in-None c = rw c.in-None.is (OpeningWritten-flag (asked None) refl c.put_flag-at.ensures)
