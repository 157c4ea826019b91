-- `packet::circuit_lists::any_wrong_extension` meets its contract. Assumes nothing.
use Rattle.std.proofs.Common.{rules, ◌/◌, ◌∙◌, length, get_or, refl, arith}
use native.Mathlib.Nat.{sub-zero}
use Rattle.std.proofs.lemmas.Iterator.{YieldsList-from_range}
use Rattle.std.proofs.lemmas.Iterator.Search.{any_from_yields_List}
use Rattle.packet.specs.Circuits.{circuits_of, wrong_extension, no_circuit}
use Rattle.packet.proofs.CircuitLists.{length-circuits_of, list_any-numbers}
use Rattle.packet.proofs.circuit_lists.any_wrong_extension.Goals as goal

pub returns : goal.returns
returns c =
    let bytes = c.args.list.now in
    let cs = circuits_of bytes in
    let n = length bytes / 3 in
    any_from_yields_List (λ i. wrong_extension (get_or cs i no_circuit)) _ _ _ c.any.ensures.ran (YieldsList-from_range 0 n n refl (sub-zero n)) (λ x b q k. search rules)
    ∙ list_any-numbers cs wrong_extension n 0 (omega (arith, length-circuits_of bytes))
