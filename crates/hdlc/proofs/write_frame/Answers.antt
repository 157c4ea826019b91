-- `hdlc::write_frame` meets its contract: the packet is written from a new pen, and what ends the frame behind it; what they have beyond eight bits for
-- each byte of packet, FCS and flag was added.
use mathlib.Core.List.{◌++◌}
use mathlib.Core.Path.{refl}
use Rattle.hdlc.specs.Frames.{flag, frame}
use Rattle.hdlc.specs.Writing.{Written}
use Rattle.hdlc.proofs.AddedZeros.{framed_within, FrameWritten_framed}
use Rattle.hdlc.proofs.Ending.{Room-packet, Room-ending, Written-frame}
use Rattle.hdlc.proofs.write_frame.Goals as goal

pub stuff_bytes-pen-requires : goal.stuff_bytes-pen-requires
stuff_bytes-pen-requires c =
    Room-packet c.args.packet.now c.new.ensures c.requires

pub end_frame-end-requires : goal.end_frame-end-requires
end_frame-end-requires c =
    Room-ending c.args.packet.now c.new.ensures c.stuff_bytes-pen.ensures
    c.stuff_bytes-pen.auto.buf c.requires

pub of-requires : goal.of-requires
of-requires c =
    let whole : let a = c.args in Written a.buf.now a.at (frame a.packet.now ++ flag) c.end_frame-end.new.buf c.end_frame-end.result =
    Written-frame _ c.new.ensures c.stuff_bytes-pen.ensures c.end_frame-end.ensures in
    framed_within _ whole refl

pub returns : goal.returns
returns c =
    let whole : let a = c.args in Written a.buf.now a.at (frame a.packet.now ++ flag) c.end_frame-end.new.buf c.end_frame-end.result =
    Written-frame _ c.new.ensures c.stuff_bytes-pen.ensures c.end_frame-end.ensures in
    FrameWritten_framed _ whole refl c.of.ensures
