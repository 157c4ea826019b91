-- `sender_layout::sender_in` meets its contract, field by field.
use Rattle.std.proofs.Common.{rules, ◌≡◌, get_or}
use Rattle.offering.specs.Record.{no_slot}
use Rattle.layout.specs.Layout.{byte_at}
use Rattle.sender_layout.specs.SenderBytes.{slot_in, sender_in}
use Rattle.sender_layout.proofs.SenderRoundTrip.{four_slots}
use Rattle.sender_layout.proofs.sender_in.Goals as goal

pub returns : goal.returns
unfolding sender_in byte_at
returns c =
    let slots = c.from_fn.result in
    let bytes = c.args.bytes.now in
    let first : get_or slots 0 no_slot ≡ slot_in bytes 13 = search rules in
    let second : get_or slots 1 no_slot ≡ slot_in bytes 23 = search rules in
    let third : get_or slots 2 no_slot ≡ slot_in bytes 33 = search rules in
    let fourth : get_or slots 3 no_slot ≡ slot_in bytes 43 = search rules in
    rw (c.circuits_in.ensures, four_slots slots c.from_fn.ensures.items.long first second third fourth)
