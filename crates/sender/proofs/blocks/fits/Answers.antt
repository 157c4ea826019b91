-- `sender::blocks::fits` meets its contract: where 209 bits are left every frame fits, and elsewhere the frame is written and ends at its length.
use native.Mathlib.Omega.{arith}
use native.Mathlib.Nat.{zero-add}
use mathlib.Core.Path.{refl, ◌∙◌}
use Rattle.packet.specs.Stores.{stores_of}
use Rattle.sender.proofs.FillTurn.{next_frame_end, fits-longest, next_frame_room, next_frame_small}
use Rattle.sender.proofs.blocks.fits.Goals as goal

pub returns-then-at-u : goal.returns-then-at-u
returns-then-at-u c =
    let a = c.args in
    let p = c.requires in
    fits-longest a.sender.now (stores_of a.lent.now) a.circuit p.sender_value p.circuit_lt_count p.long_enough p.circuit_value a.at a.u c.if-at-u.true

pub put_next-measured-requires-clause-room : goal.put_next-measured-requires-clause-room
put_next-measured-requires-clause-room c =
    let a = c.args in
    let p = c.requires in
    next_frame_room a.sender.now (stores_of a.lent.now) a.circuit p.sender_value p.circuit_lt_count p.long_enough p.circuit_value _ refl

pub overflow_add-result : goal.overflow_add-result
overflow_add-result c =
    let a = c.args in
    let p = c.requires in
    record {
      fits =
          next_frame_small a.sender.now (stores_of a.lent.now) a.circuit p.sender_value p.circuit_lt_count p.long_enough p.circuit_value a.at
          c.put_next-measured.result.at (omega (arith, p.at_le_u))
          (next_frame_end a.sender.now (stores_of a.lent.now) a.circuit c.put_next-measured.ensures);
    }

pub returns : goal.returns
returns c =
    let a = c.args in
    rw (next_frame_end a.sender.now (stores_of a.lent.now) a.circuit c.put_next-measured.ensures ∙ zero-add _)
