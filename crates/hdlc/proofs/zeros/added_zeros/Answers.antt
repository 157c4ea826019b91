-- `hdlc::zeros::added_zeros` meets its contract: the laws of the zeros that stuffing adds. Assumes nothing.
use Rattle.hdlc.proofs.AddedZeros.{added-zeros}
use Rattle.hdlc.proofs.zeros.added_zeros.Goals as goal

pub returns : goal.returns
returns c = added-zeros
