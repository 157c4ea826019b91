-- `packet::circuit_lists::number_in` meets its contract. Assumes nothing.
use Rattle.std.proofs.Common.{rules, ◌/◌, ◌∙◌, length, get_or, refl, arith}
use native.Mathlib.Nat.{sub-zero}
use Rattle.std.proofs.lemmas.Iterator.{YieldsList-from_range}
use Rattle.std.proofs.lemmas.Iterator.Search.{position_from_yields_List}
use Rattle.packet.specs.Circuits.{circuits_of, alike, no_circuit, number_from}
use Rattle.packet.proofs.CircuitLists.{length-circuits_of, position-from_first, alike-fields}
use Rattle.packet.proofs.circuit_lists.number_in.Goals as goal

pub returns : goal.returns
unfolding number_from
returns c =
    let bytes = c.args.list.now in
    let cs = circuits_of bytes in
    let n = length bytes / 3 in
    position_from_yields_List (λ i. alike (get_or cs i no_circuit) c.args.circuit) _ _ _ c.position.ensures.ran
    (YieldsList-from_range 0 n n refl (sub-zero n)) (λ x b q k. rw alike-fields (search rules))
    ∙ position-from_first cs (λ d. alike d c.args.circuit) n (omega (arith, length-circuits_of bytes))
