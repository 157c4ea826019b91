-- `writing::Waiting::put` meets its contract: the packet is the bytes of its lead and the part of the message, and what its frame and flag have beyond eight
-- bits for each byte was added.
use Rattle.hdlc.proofs.AddedZeros.{led_small, led_within, FrameWritten-led}
use Rattle.writing.proofs.PacketWriting.{packet_at-led}
use Rattle.writing.proofs.Waiting.put.Goals as goal

pub write_led-end-requires-clause-room : goal.write_led-end-requires-clause-room
write_led-end-requires-clause-room c =
    let w = c.args.self.now in
    rw (packet_at-led w.circuit w.slot w.message.now _ _ w.whole c.lead-lead.ensures.0 c.part-part.ensures) c.requires

pub overflow_add-lead : goal.overflow_add-lead
overflow_add-lead c =
    let w = c.args.self.now in
    record { fits = led_small _ _ _ (packet_at-led w.circuit w.slot w.message.now _ _ w.whole c.lead-lead.ensures.0 c.part-part.ensures) c.requires }

pub of-requires : goal.of-requires
of-requires c =
    let w = c.args.self.now in
    led_within _ _ _ (packet_at-led w.circuit w.slot w.message.now _ _ w.whole c.lead-lead.ensures.0 c.part-part.ensures) c.write_led-end.ensures

pub returns : goal.returns
returns c =
    let w = c.args.self.now in
    FrameWritten-led _ _ _ (packet_at-led w.circuit w.slot w.message.now _ _ w.whole c.lead-lead.ensures.0 c.part-part.ensures)
    c.write_led-end.ensures c.of.ensures
