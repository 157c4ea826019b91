-- `hdlc::led::write_led` meets its contract: the bytes of the number, those that are lent, and what ends the frame are written in turn.
use native.Mathlib.Omega.{arith}
use mathlib.Core.Path.{◌∙◌}
use Rattle.bits.specs.Bits.{bits_of}
use Rattle.hdlc.specs.Leads.{led}
use Rattle.hdlc.specs.Writing.{Stuffed}
use Rattle.hdlc.proofs.Leads.{bits_of-led}
use Rattle.hdlc.proofs.Ending.{Room-packet, Room-ending, Written-frame}
use Rattle.hdlc.proofs.InTurn.{Going, Going_start, Going_room, Going-step}
use Rattle.hdlc.proofs.led.write_led.Goals as goal

pub stuff_number-pen-requires : goal.stuff_number-pen-requires
stuff_number-pen-requires c =
    let start : let a = c.args in let packet = led a.number a.n a.bytes.now in Going a.buf.now c.new.result packet a.buf.now c.new.result packet =
    Going_start (Room-packet _ c.new.ensures c.requires.room) in
    let a = c.args in
    record { n_nonzero = (c.requires.n_nonzero, omega (arith, c.new.ensures.1)); room = Going_room start _ _ (bits_of-led a.number a.n a.bytes.now) }

pub stuff_bytes-end-requires : goal.stuff_bytes-end-requires
stuff_bytes-end-requires c =
    let start : let a = c.args in let packet = led a.number a.n a.bytes.now in Going a.buf.now c.new.result packet a.buf.now c.new.result packet =
    Going_start (Room-packet _ c.new.ensures c.requires.room) in
    let one : let a = c.args in Going a.buf.now c.new.result (led a.number a.n a.bytes.now) c.stuff_number-pen.new.buf c.stuff_number-pen.result a.bytes.now =
    let a = c.args in
    Going-step start _ _ (bits_of-led a.number a.n a.bytes.now) c.stuff_number-pen.ensures c.stuff_number-pen.auto.buf in
    one.room

pub end_frame-requires : goal.end_frame-requires
end_frame-requires c =
    let start : let a = c.args in let packet = led a.number a.n a.bytes.now in Going a.buf.now c.new.result packet a.buf.now c.new.result packet =
    Going_start (Room-packet _ c.new.ensures c.requires.room) in
    let one : let a = c.args in Going a.buf.now c.new.result (led a.number a.n a.bytes.now) c.stuff_number-pen.new.buf c.stuff_number-pen.result a.bytes.now =
    let a = c.args in
    Going-step start _ _ (bits_of-led a.number a.n a.bytes.now) c.stuff_number-pen.ensures c.stuff_number-pen.auto.buf in
    let two : let a = c.args in Stuffed a.buf.now c.new.result (bits_of (led a.number a.n a.bytes.now)) c.stuff_bytes-end.new.buf c.stuff_bytes-end.result =
    one.rest _ _ c.stuff_bytes-end.ensures in
    Room-ending _ c.new.ensures two (c.stuff_bytes-end.auto.buf ∙ c.stuff_number-pen.auto.buf)
    c.requires.room

pub returns : goal.returns
returns c =
    let start : let a = c.args in let packet = led a.number a.n a.bytes.now in Going a.buf.now c.new.result packet a.buf.now c.new.result packet =
    Going_start (Room-packet _ c.new.ensures c.requires.room) in
    let one : let a = c.args in Going a.buf.now c.new.result (led a.number a.n a.bytes.now) c.stuff_number-pen.new.buf c.stuff_number-pen.result a.bytes.now =
    let a = c.args in
    Going-step start _ _ (bits_of-led a.number a.n a.bytes.now) c.stuff_number-pen.ensures c.stuff_number-pen.auto.buf in
    let two : let a = c.args in Stuffed a.buf.now c.new.result (bits_of (led a.number a.n a.bytes.now)) c.stuff_bytes-end.new.buf c.stuff_bytes-end.result =
    one.rest _ _ c.stuff_bytes-end.ensures in
    Written-frame _ c.new.ensures two c.end_frame.ensures
