-- `writing::put_next` meets its contract: what waits at the circuit is the next packet.
use Rattle.writing.proofs.FrameLength.{next_packet-packet_at, next_frame-packet_at}
use Rattle.writing.proofs.put_next.Goals as goal

pub put-requires : goal.put-requires
put-requires c =
    let w = c.at-waiting.ensures in
    rw (w.0, w.1, w.2) (rw next_frame-packet_at at c.requires.room)

pub returns : goal.returns
returns c =
    let w = c.at-waiting.ensures in
    rw next_packet-packet_at (rw (w.0, w.1, w.2) at c.put.ensures)
