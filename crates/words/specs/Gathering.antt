-- Bits gathered one stretch after another in 21 bytes: whole bytes are stored, and what is left of the last byte is held as a number.
use Rattle.std.specs.Prelude.{ℕ, ◌+◌, ◌*◌, ◌^◌, ◌<◌, Bool, List, ◌≡◌, length, take, drop}
use Rattle.bits.specs.Bits.{low_bits, fill_bytes}
use Rattle.words.specs.declared.Gathered.{Gathered}

-- the bits `y` are gathered: so many whole bytes of them in `stored`, of which bytes there are 21, and the rest in the number
pub record Gathers (g : Gathered) (stored : List ℕ) (y : List Bool) : Type 0 where
  pub all : length y ≡ 8 * g.bytes + g.len
  pub rest : drop (8 * g.bytes) y ≡ low_bits g.len g.rest
  pub small : g.rest < 2 ^ g.len
  pub whole : stored ≡ fill_bytes 21 (take (8 * g.bytes) y)
