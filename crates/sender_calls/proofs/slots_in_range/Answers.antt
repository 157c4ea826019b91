-- `sender_calls::slots_in_range` meets its contract: the slots lie one behind the other.
use Rattle.std.proofs.Common.{◌+◌, ◌*◌, ◌∙◌, rules, refl}
use native.Mathlib.Nat.{sub-zero}
use Rattle.std.proofs.lemmas.Iterator.{YieldsList-from_range}
use Rattle.std.proofs.lemmas.Iterator.Search.{all_from_yields_List}
use Rattle.packet.specs.Stores.{longest_at}
use Rattle.offering.specs.Record.{slot_in_range}
use Rattle.sender_layout.specs.SenderBytes.{slot_in}
use Rattle.sender_calls.proofs.SlotsInPlace.{slots_there}
use Rattle.sender_calls.proofs.slots_in_range.Goals as goal

pub returns : goal.returns
returns c =
    all_from_yields_List (λ i. slot_in_range (longest_at c.args.given i) (slot_in c.args.bytes.now (13 + 10 * i))) _ _ _ c.all.ensures.ran
    (YieldsList-from_range 0 c.args.count c.args.count refl (sub-zero c.args.count)) (λ x b q k. search rules)
    ∙ slots_there c.args.given c.args.bytes.now c.args.count c.requires.1
