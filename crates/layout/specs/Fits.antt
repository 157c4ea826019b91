-- A record's fields fit their types. The definitions are over all numbers and lists; in a record that code holds, bytes are below 256, numbers of two bytes
-- below 65,536, and arrays have their lengths.
use Rattle.std.specs.Prelude.{◌≡◌, ◌<◌, List, length}
use Rattle.packet.specs.declared.Circuit.{Circuit}
use Rattle.packet.specs.declared.Circuits.{Circuits}
use Rattle.packet.specs.Lists.{AllAre}

-- an array of four, each element of which fits
pub record Four {A : Type 0} (Fits : A → Type 0) (l : List A) : Type 0 where
  pub four : length l ≡ 4
  pub each : AllAre Fits l

pub record CircuitFits (c : Circuit) : Type 0 where
  pub address : c.address < 256
  pub extended : c.extended < 256
  pub extension : c.extension < 256

pub record CircuitsFit (cs : Circuits) : Type 0 where
  pub count : cs.count < 256
  pub list : Four CircuitFits cs.list
