-- The store's regions, and the long buffer beside them (document 01, "Circuits and records"; document 02, ask 7).
use Rattle.std.specs.Prelude.{ℕ, Bool, false, cond, ◌&&◌, List, [], length, ltb, eqb}
use Rattle.packet.specs.declared.Stores.{Stores as LentStores}
use Rattle.packet.specs.Messages.{longest, longest_long}

-- "The store is lent bytes in regions of 4,096, one per circuit number"
unfoldable pub region : ℕ
region = 4096

-- what an end lends to a call: its store and, where one is `given`, the "lent buffer of 65,535 bytes beside the store"
pub record Stores : Type 0 where
  pub store : List ℕ
  pub given : Bool
  pub long : List ℕ

abbrev pub stores : List ℕ → Bool → List ℕ → Stores
stores bytes given buffer = record { store = bytes; given = given; long = buffer }

-- the store alone
abbrev pub store_alone : List ℕ → Stores
store_alone bytes = stores bytes false []

-- what a call is lent to read
abbrev pub stores_of : LentStores → Stores
stores_of lent = stores lent.store.now lent.given lent.long.now

-- circuit number c takes long messages: "Circuit 0 may be offered" one, where a buffer is given
unfoldable pub takes_long : Bool → ℕ → Bool
takes_long given c = given && eqb c 0

-- the longest message that number c may have: "14 allows circuit 0 up to 65,535 bytes with the buffer; without it, 01 holds"
unfoldable pub longest_at : Bool → ℕ → ℕ
longest_at given c = cond (takes_long given c) longest_long longest

-- "19 long buffer too short, after 5 in every call given one"
unfoldable pub long_short : Stores → Bool
long_short l = l.given && ltb (length l.long) longest_long
