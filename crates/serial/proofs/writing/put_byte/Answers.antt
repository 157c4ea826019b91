-- `writing::put_byte` meets its contract: a byte takes one place or two.
use mathlib.Core.Path.{sym, ◌∙◌}
use native.Mathlib.Numerals.{add-one}
use native.Mathlib.Omega.{arith}
use lib.ListN.{length-set}
use Rattle.serial.specs.Octets.{toggled}
use Rattle.serial.proofs.Escaping.{escaped_two, escaped_one}
use Rattle.serial.proofs.writing.put_byte.Goals as goal

pub bounds-output-at-then-is_escaped : goal.bounds-output-at-then-is_escaped
bounds-output-at-then-is_escaped c = rw length-set (omega arith)

pub returns-then-is_escaped : goal.returns-then-is_escaped
unfolding toggled
returns-then-is_escaped c =
    let two = escaped_two _ (sym c.is_escaped.ensures ∙ c.if-is_escaped.true) in
    (rw two, rw (two, add-one))

pub returns : goal.returns
returns c =
    let one = escaped_one _ (sym c.is_escaped.ensures ∙ c.if-is_escaped.false) in
    (rw one, rw one)
