-- `framing_layout::put_framing` meets its contract: the bits are written behind the three numbers.
use mathlib.Core.List.{[], ◌∷◌}
use mathlib.Core.Path.{◌≡◌, refl}
use native.Mathlib.Omega.{arith}
use lib.ListN.{length}
use Rattle.layout.proofs.Copies.{two_written}
use Rattle.framing_layout.specs.FramingBytes.{framing_bytes}
use borrow.Author.Rules.{rules}
use Rattle.framing_layout.proofs.put_framing.Goals as goal

pub copy_at-requires-2 : goal.copy_at-requires-2
copy_at-requires-2 c =
    let long : length c.args.framing.bits ≡ 21 = search rules in
    omega arith

pub returns : goal.returns
unfolding framing_bytes
returns c =
    let a = c.args in
    two_written a.bytes.now a.at 3 (a.framing.phase ∷ a.framing.ones ∷ a.framing.count ∷ []) a.framing.bits refl c.copy_at.ensures c.copy_at-2.ensures
