-- `receiver_calls::read` meets its contract: a refusal leaves all as it was, and otherwise the bits are scanned, and a packet that passed is heard.
use Rattle.std.proofs.Common.{sym, ◌∙◌, rules, arith}
use Rattle.bits.proofs.Bits.{Bytes_each}
use Rattle.packet.specs.Stores.{stores}
use Rattle.receiver.proofs.ReadLaws.{accepts, accepted, quiet_check}
use Rattle.receiver_calls.proofs.ReadingLaws.{call_refused, framing_left, from_first, packet_within, lengths, call_quiet, call_packet}
use Rattle.receiver_calls.proofs.read.Goals as goal
use Rattle.receiver_calls.proofs.read.Goals.{in-Packet, in_default}

pub returns-in_err-check : goal.returns-in_err-check
returns-in_err-check c =
    let e = call_refused _ (stores c.args.store.now c.args.given c.args.long.now) _ _ _ c.args.answer.now (sym c.check.ensures ∙ c.in_err-check.was) in
    search rules

pub invariant_of-stretch : goal.invariant_of-stretch
invariant_of-stretch c =
    let known = accepted _ _ _ _ _ (accepts c.check.ensures c.in_ok-check.was) in
    record { in_order = known.order; lent = known.lent }

pub scan_left-scan-requires : goal.scan_left-scan-requires
scan_left-scan-requires c =
    framing_left _ _ _ _ _ c.args.answer.now (sym c.check.ensures ∙ c.in_ok-check.was) c.requires.0 (Bytes_each c.args.«record».now (λ i. search rules)) c.framing_in.ensures

pub overflow_sub-read : goal.overflow_sub-read
overflow_sub-read c =
    from_first _ _ _ _ _ c.args.answer.now (sym c.check.ensures ∙ c.in_ok-check.was) c.requires.0 (Bytes_each c.args.«record».now (λ i. search rules)) c.framing_in.ensures
    c.scan_left-scan.ensures

pub shared_ref_as_front-new : goal.shared_ref_as_front-new
shared_ref_as_front-new c =
    let within = packet_within _ _ _ _ _ c.args.answer.now (sym c.check.ensures ∙ c.in_ok-check.was) c.requires.0 (Bytes_each c.args.«record».now (λ i. search rules))
    c.framing_in.ensures c.scan_left-scan.ensures c.in-Packet.is in
    omega arith

pub new-requires : goal.new-requires
new-requires c =
    let within = packet_within _ _ _ _ _ c.args.answer.now (sym c.check.ensures ∙ c.in_ok-check.was) c.requires.0 (Bytes_each c.args.«record».now (λ i. search rules))
    c.framing_in.ensures c.scan_left-scan.ensures c.in-Packet.is in
    lengths _ _ _ _ _ c.args.answer.now (sym c.check.ensures ∙ c.in_ok-check.was) c.requires.0 (Bytes_each c.args.«record».now (λ i. search rules))
    c.framing_in.ensures c.scan_left-scan.ensures c.in-Packet.is (omega arith)

pub hear-notice-requires : goal.hear-notice-requires
hear-notice-requires c =
    let known = accepted _ _ _ _ _ (accepts c.check.ensures c.in_ok-check.was) in
    (c.requires.0, c.requires.1, known.range, known.enough, known.long)

pub returns : goal.returns
returns c =
    let ok = sym c.check.ensures ∙ c.in_ok-check.was in
    elim c.match-scan.branch [
      | in-Packet w ↦
          rw (w.store-is, w.long-is)
          (call_packet _ _ _ _ _ c.args.answer.now ok c.requires.0 (Bytes_each c.args.«record».now (λ i. search rules)) c.framing_in.ensures
          c.scan_left-scan.ensures w.in-Packet.is (rw w.new.ensures at w.hear-notice.ensures) (rw w.record-is at c.put_framing.ensures)
          (rw w.notice-is at c.put_read_answer.ensures))
      | in_default w ↦
          rw (w.store-is, w.long-is)
          (call_quiet _ _ _ _ _ c.args.answer.now ok c.requires.0 (Bytes_each c.args.«record».now (λ i. search rules)) c.framing_in.ensures
          c.scan_left-scan.ensures c.requires.1 (quiet_check _ w.in_default.not-Packet) w.quiet_notice-notice.ensures
          (rw w.record-is at c.put_framing.ensures) (rw w.notice-is at c.put_read_answer.ensures))
    ]
