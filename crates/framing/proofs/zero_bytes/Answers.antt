-- `zero_bytes` meets its contract.
use Rattle.std.proofs.Common.{rules}
use Rattle.bits.proofs.Bits.{Bytes_each}
use Rattle.framing.proofs.Turns.{zero_bytes}
use Rattle.framing.proofs.zero_bytes.Goals as goal

pub returns : goal.returns
returns c = zero_bytes c.args.bytes.now _ (Bytes_each _ (λ i. (c.type_inv.bytes i).fits)) (search rules)
