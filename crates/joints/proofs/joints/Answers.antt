-- `joints::joints` meets its contract, by the table. Assumes nothing.
use Rattle.joints.proofs.Table.{joints}
use Rattle.joints.proofs.joints.Goals as goal

pub returns : goal.returns
returns c = joints
