-- `sender::blocks::put_system` meets its contract: the packet is three bytes of a number, and the information, and what its frame and flag have beyond eight
-- bits for each byte was added.
use native.Mathlib.Omega.{arith}
use Rattle.hdlc.proofs.AddedZeros.{led_within, FrameWritten-led}
use Rattle.sender.proofs.OpeningBits.{led-system}
use Rattle.sender.proofs.blocks.put_system.Goals as goal

pub below-requires : goal.below-requires
below-requires c = omega (arith, c.below-descriptor.ensures.small 1 (omega arith))

pub below-number-requires : goal.below-number-requires
below-number-requires c = omega (arith, c.below.ensures.small 256 (omega (arith, c.below-descriptor.ensures.small 1 (omega arith))))

pub write_led-end-requires : goal.write_led-end-requires
write_led-end-requires c =
    let whole = led-system _ _ _ c.below-number.ensures c.below.ensures c.below-descriptor.ensures in
    record { n_nonzero = omega arith; room = rw whole c.requires.room }

pub of-requires : goal.of-requires
of-requires c =
    let whole = led-system _ _ _ c.below-number.ensures c.below.ensures c.below-descriptor.ensures in
    led_within _ 3 _ whole c.write_led-end.ensures

pub returns : goal.returns
returns c =
    let whole = led-system _ _ _ c.below-number.ensures c.below.ensures c.below-descriptor.ensures in
    FrameWritten-led _ 3 _ whole c.write_led-end.ensures c.of.ensures
