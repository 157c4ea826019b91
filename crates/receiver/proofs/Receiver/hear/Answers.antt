-- `receiver::Receiver::hear` meets its contract: the packet is heard, and its notice is written.
use Rattle.packet.specs.Stores.{stores}
use Rattle.receiver.proofs.ReadLaws.{before_hearing, before_writing, passed-made}
use Rattle.receiver.proofs.Receiver.hear.Goals as goal

pub hear-heard-requires : goal.hear-heard-requires
hear-heard-requires c =
    let a = c.args in
    before_hearing a.self.now (stores a.store.now a.given a.long.now) a.packet.now c.requires.0

pub write-requires : goal.write-requires
write-requires c =
    let a = c.args in
    (before_writing a.self.now (stores a.store.now a.given a.long.now) a.packet.now c.requires.0 c.requires.2 c.hear-heard.ensures, c.requires.1)

pub returns : goal.returns
returns c =
    let a = c.args in
    passed-made a.self.now (stores a.store.now a.given a.long.now) a.packet.now c.hear-heard.ensures (c.write.ensures a.given)
