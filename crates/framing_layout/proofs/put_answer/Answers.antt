-- `framing_layout::put_answer` meets its contract: the number of bits is written behind the eight bytes of the body.
use mathlib.Core.List.{◌∷◌, ◌++◌}
use mathlib.Core.Path.{refl, ◌∙◌}
use lib.ListN.{replicate}
use Rattle.layout.specs.Layout.{low_bytes}
use Rattle.layout.proofs.Copies.{two_written}
use Rattle.framing_layout.specs.FramingBytes.{stop_number, length_given, framing_answer_bytes}
use Rattle.framing_layout.proofs.put_answer.Goals as goal

pub returns : goal.returns
unfolding framing_answer_bytes low_bytes
returns c =
    let a = c.args in
    let body = stop_number a.check ∷ low_bytes 1 (length_given a.check) ++ replicate 6 0 in
    two_written a.bytes.now 0 8 body (low_bytes 8 a.read) refl
    (c.copy_in.ensures ∙ rw (c.stop_number.ensures, c.low_byte.ensures, c.length_given.ensures)) c.put_number.ensures
