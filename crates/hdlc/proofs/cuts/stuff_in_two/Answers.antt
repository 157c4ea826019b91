-- `hdlc::cuts::stuff_in_two` meets its contract: the first part and the rest are written in turn.
use mathlib.Core.List.{◌++◌}
use Rattle.bits.proofs.Bits.{bits_of_append}
use Rattle.hdlc.proofs.InTurn.{Going, Going_start, Going_room, Going-step}
use Rattle.hdlc.proofs.cuts.stuff_in_two.Goals as goal

pub stuff_bytes-between-requires : goal.stuff_bytes-between-requires
stuff_bytes-between-requires c =
    Going_room (Going_start c.requires) _ _ (bits_of_append c.args.first.now c.args.rest.now)

pub returns : goal.returns
returns c =
    let one : let a = c.args in Going a.buf.now a.pen (a.first.now ++ a.rest.now) c.stuff_bytes-between.new.buf c.stuff_bytes-between.result a.rest.now =
    Going-step (Going_start c.requires) _ _ (bits_of_append c.args.first.now c.args.rest.now) c.stuff_bytes-between.ensures
    c.stuff_bytes-between.auto.buf in
    one.rest _ _ c.stuff_bytes.ensures

pub stuff_bytes-requires : goal.stuff_bytes-requires
stuff_bytes-requires c =
    let one : let a = c.args in Going a.buf.now a.pen (a.first.now ++ a.rest.now) c.stuff_bytes-between.new.buf c.stuff_bytes-between.result a.rest.now =
    Going-step (Going_start c.requires) _ _ (bits_of_append c.args.first.now c.args.rest.now) c.stuff_bytes-between.ensures
    c.stuff_bytes-between.auto.buf in
    one.room
