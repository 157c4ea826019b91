-- The numbers of a framing apart from its bits, as the code has them while it changes the bits in place.
use Rattle.std.specs.Prelude.{ℕ, List}
use Rattle.framing.specs.declared.Framing.{Framing}
use Rattle.framing.specs.declared.Head.{Head}

-- the framing of a head and bits
abbrev pub framing_of : Head → List ℕ → Framing
framing_of h bits = record { phase = h.phase; ones = h.ones; count = h.count; bits = bits }
