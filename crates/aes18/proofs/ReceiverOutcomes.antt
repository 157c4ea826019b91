-- What the receiver's exported functions answer and leave where there is no room.
use Prim.Native.Nat.{ℕ, ◌<◌}
use mathlib.Core.List.{List}
use mathlib.Core.Path.{◌≡◌, refl}
use borrow.Author.Tests.{lt-ltb}
use lib.ListN.{length}
use Rattle.packet.specs.Stores.{Stores}
use Rattle.receiver_layout.specs.ReceiverBytes.{receiver_length}
use Rattle.aes18.specs.Room.{no_room}
use Rattle.aes18.specs.ReceiverCalls.{list_answered, list_record, read_answered, read_record, read_stores, read_answer}

-- ---- listing

module _ (bytes list : List ℕ) where
  -- what a listing answers, and the record then
  abbrev Listed : ℕ → List ℕ → Type 0
  Listed number new = (number ≡ list_answered bytes list) × (new ≡ list_record bytes list)

  pub list_short : length bytes < receiver_length → Listed 255 bytes
  unfolding list_answered list_record no_room
  list_short h = rw (lt-ltb (length bytes) receiver_length h) (refl, refl)

-- ---- reading

module _ (bytes : List ℕ) (l : Stores) (bits : List ℕ) (from to : ℕ) (answer : List ℕ) where
  -- what a reading call answers, and the record, the stores and the answer's bytes then
  abbrev Read : ℕ → List ℕ → Stores → List ℕ → Type 0
  Read number new k new_answer =
      (number ≡ read_answered bytes l bits from to answer) × (new ≡ read_record bytes l bits from to answer)
      × (k ≡ read_stores bytes l bits from to answer) × (new_answer ≡ read_answer bytes l bits from to answer)

  pub read_short : length bytes < receiver_length → Read 255 bytes l answer
  unfolding read_answered read_record read_stores read_answer no_room
  read_short h = rw (lt-ltb (length bytes) receiver_length h) (refl, refl, refl, refl)
