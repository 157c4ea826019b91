-- `hdlc::cuts::cut_between_bytes` meets its contract: bytes stuffed in two parts are the whole stuffed. Assumes nothing.
use Rattle.hdlc.proofs.StuffedInTwo.{cut-between-bytes}
use Rattle.hdlc.proofs.cuts.cut_between_bytes.Goals as goal

pub returns : goal.returns
returns c = cut-between-bytes
