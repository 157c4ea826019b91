-- `packet::circuit_lists::alike_behind` meets its contract. Assumes nothing.
use Rattle.std.proofs.Common.{rules, ◌+◌, ◌-◌, ◌/◌, ◌∙◌, length, get_or, refl, arith}
use Rattle.std.proofs.lemmas.Iterator.{YieldsList-from_range}
use Rattle.std.proofs.lemmas.Iterator.Search.{any_from_yields_List}
use Rattle.packet.specs.Circuits.{circuits_of, alike, no_circuit}
use Rattle.packet.proofs.CircuitLists.{length-circuits_of, list_any-numbers, alike-fields}
use Rattle.packet.proofs.circuit_lists.alike_behind.Goals as goal

pub returns : goal.returns
returns c =
    let bytes = c.args.list.now in
    let cs = circuits_of bytes in
    let from = c.args.i + 1 in
    let n = length bytes / 3 - from in
    any_from_yields_List (λ k. alike (get_or cs c.args.i no_circuit) (get_or cs k no_circuit)) _ _ _ c.any.ensures.ran
    (YieldsList-from_range from (length bytes / 3) n refl refl) (λ x b q k. rw alike-fields (search rules))
    ∙ list_any-numbers cs (alike (get_or cs c.args.i no_circuit)) n from (omega (arith, length-circuits_of bytes, c.requires))
