-- `notices::slots::slots_in_range` meets its contract.
use Rattle.std.proofs.Common.{take, ◌∙◌, rules}
use Rattle.std.proofs.lemmas.Iterator.{YieldsList-from_slice}
use Rattle.std.proofs.lemmas.Iterator.Consumers.{YieldsList-from_enumerate}
use Rattle.std.proofs.lemmas.Iterator.Search.{all_from_yields_List}
use Rattle.notices.proofs.Ranges.{numbered_in_range, list_all-slot_in_range}
use Rattle.notices.proofs.slots.slots_in_range.Goals as goal

pub returns : goal.returns
returns c =
    let slots = take c.args.count c.args.slots in
    let numbered = YieldsList-from_enumerate (YieldsList-from_slice slots (cc)) (cc) in
    all_from_yields_List (numbered_in_range c.args.given) _ _ _ c.all.ensures.ran numbered (λ x b q k. search rules)
    ∙ list_all-slot_in_range c.args.given 0 slots
