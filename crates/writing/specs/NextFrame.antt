-- The first copy waiting at a circuit, and its frame (document 01, "Messages and packets" and "Blocks").
use Rattle.std.specs.Prelude.{ℕ, Bool, List, ◌++◌, get_or}
use Rattle.hdlc.specs.Frames.{flag, frame}
use Rattle.packet.specs.Circuits.{no_circuit}
use Rattle.packet.specs.Stores.{Stores}
use Rattle.offering.specs.declared.Sender.{Sender}
use Rattle.offering.specs.Record.{slot_at, message_at}
use Rattle.writing.specs.PacketParts.{packet_at}

-- the first copy waiting at a circuit
unfoldable pub next_packet : Sender → Stores → ℕ → List ℕ
next_packet s l c = packet_at (get_or s.circuits.list c no_circuit) (slot_at s c) (message_at s l c)

-- the frame of the first copy waiting at a circuit, with a flag after it
unfoldable pub next_frame : Sender → Stores → ℕ → List Bool
next_frame s l c = frame (next_packet s l c) ++ flag
