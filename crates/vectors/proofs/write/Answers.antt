-- `vectors::write` meets its contract: a frame of two bytes and its two flags have at most 217 bits.
use Rattle.std.proofs.Common.{arith}
use Rattle.hdlc.proofs.Ending.{length-flag}
use Rattle.hdlc.proofs.FrameLength.{length-frame-flag, Room-frame}
use Rattle.vectors.proofs.write.Goals as goal

pub put_flag-body-requires : goal.put_flag-body-requires
put_flag-body-requires c = record { within = omega (arith, length-flag); small = omega (arith, length-flag) }

pub write_frame-requires : goal.write_frame-requires
write_frame-requires c =
    Room-frame _ _ c.args.packet.now (omega (arith, c.told-packet)) (omega (arith, length-flag)) (omega (arith, length-flag))

pub returns : goal.returns
returns c = omega (arith, length-flag, length-frame-flag c.args.packet.now (omega (arith, c.told-packet)))
