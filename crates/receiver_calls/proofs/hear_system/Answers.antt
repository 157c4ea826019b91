-- `receiver_calls::hear_system` meets its contract.
use Rattle.std.proofs.Common.{refl}
use Rattle.notices.specs.Heard.{system_heard}
use Rattle.notices.specs.Stores.{stores_after_notice}
use Rattle.receiver_calls.proofs.hear_system.Goals as goal

pub returns : goal.returns
unfolding stores_after_notice system_heard
returns c = λ ts given long. rw (c.system_notice.ensures, c.packet.ensures, c.write_system.ensures) (refl, refl)
