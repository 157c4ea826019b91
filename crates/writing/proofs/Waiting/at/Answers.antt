-- `writing::Waiting::at` meets its contract: in a record in range the circuit is one of four, and its message lies in the store or in the long buffer.
use Rattle.std.proofs.Common.{length, refl, ap, ◌∙◌, arith}
use Rattle.packet.specs.Circuits.{no_circuit}
use Rattle.packet.specs.Stores.{stores_of}
use Rattle.offering.specs.Record.{no_slot, slot_at, message_at}
use Rattle.offering.proofs.Ranges.{slot_in_range-wide}
use Rattle.writing.proofs.FrameLength.{circuit_lt, long_within, length-message_at, extended_lt}
use Rattle.writing.proofs.Waiting.at.Goals as goal

pub offset_bounds-sender-circuit : goal.offset_bounds-sender-circuit
offset_bounds-sender-circuit c =
    let r = c.requires in
    omega (arith, circuit_lt _ _ _ r.sender_value r.circuit_lt_count r.long_enough)

pub bounds-sender-circuit : goal.bounds-sender-circuit
bounds-sender-circuit c =
    let r = c.requires in
    circuit_lt _ _ _ r.sender_value r.circuit_lt_count r.long_enough

pub bounds-sender-circuit-2 : goal.bounds-sender-circuit-2
bounds-sender-circuit-2 c =
    let r = c.requires in
    circuit_lt _ _ _ r.sender_value r.circuit_lt_count r.long_enough

pub message_of-requires : goal.message_of-requires
unfolding slot_at no_slot
message_of-requires c =
    let r = c.requires in (
      circuit_lt _ _ _ r.sender_value r.circuit_lt_count r.long_enough,
      r.long_enough.store,
      long_within _ _ _ r.sender_value r.circuit_lt_count r.long_enough,
    )

pub invariant_of-result : goal.invariant_of-result
unfolding slot_at no_slot no_circuit message_at
invariant_of-result c =
    let s = c.args.sender.now in
    let l = stores_of c.args.lent.now in
    let r = c.requires in
    record {
      in_range = slot_in_range-wide l.given s c.args.circuit r.sender_value r.circuit_lt_count;
      waits = r.circuit_value;
      extended = extended_lt s l c.args.circuit r.sender_value r.circuit_lt_count r.long_enough;
      whole = ap length c.message_of.ensures ∙ length-message_at s l c.args.circuit r.sender_value r.circuit_lt_count r.long_enough;
    }

pub returns : goal.returns
unfolding slot_at no_slot no_circuit message_at
returns c = (refl, refl, c.message_of.ensures)
