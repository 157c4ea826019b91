-- `sender_layout::slot_bytes` meets its contract, byte by byte.
use Rattle.layout.specs.Layout.{low_bytes}
use Rattle.sender_layout.specs.SenderBytes.{slot_bytes}
use Rattle.sender_layout.proofs.slot_bytes.Goals as goal

pub returns : goal.returns
unfolding slot_bytes low_bytes
returns c = rw (c.to_le_bytes-length.ensures, c.to_le_bytes-place.ensures, c.to_le_bytes-left.ensures)
