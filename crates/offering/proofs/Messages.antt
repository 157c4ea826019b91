-- Where a message lies: a long one in the long buffer, any other in its circuit's region.
use mathlib.Core.Path.{◌≡◌}
use Prim.Native.Nat.{ℕ, ◌*◌, ◌≤◌, ◌<◌}
use lib.ListN.{take, drop}
use borrow.Author.Tests.{lt-ltb, le-ltb}
use Rattle.packet.specs.Messages.{longest}
use Rattle.packet.specs.Stores.{region, Stores}
use Rattle.offering.specs.Record.{message_of}

pub message_of_long : (l : Stores) (c n : ℕ) → longest < n → message_of l c n ≡ take n l.long
unfolding message_of
message_of_long l c n h = rw (lt-ltb longest n h)

pub message_of-region : (l : Stores) (c n : ℕ) → n ≤ longest → message_of l c n ≡ take n (drop (region * c) l.store)
unfolding message_of
message_of-region l c n h = rw (le-ltb longest n h)
