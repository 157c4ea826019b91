-- `layout::number_in` meets its contract.
use mathlib.Core.Path.{◌≡◌}
use Rattle.layout.specs.Layout.{byte_at, circuits_in}
use Rattle.layout.proofs.Parts.{circuits_behind}
use Rattle.layout.proofs.number_in.Goals as goal

pub returns : goal.returns
unfolding byte_at circuits_in
returns c =
    let count : c.from-count.result ≡ (circuits_in c.args.bytes.now).count = c.from-count.ensures in
    rw (count, circuits_behind c.args.bytes.now c.requires.0 c.requires.1) at c.number_in.ensures
