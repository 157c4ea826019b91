-- `fcs::fcs` meets its contract: the register over the bytes, complemented. Assumes nothing.
use Rattle.fcs.specs.Fcs.{preset, complement, fcs_of}
use Rattle.fcs.proofs.fcs.Goals as goal

pub returns : goal.returns
unfolding fcs_of complement preset
returns c = rw c.fcs_bytes.ensures
