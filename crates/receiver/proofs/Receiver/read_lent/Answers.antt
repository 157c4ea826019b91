-- `receiver::Receiver::read_lent` meets its contract: a refusal leaves all as it was, and otherwise the bits are scanned, and
-- what the scan found is told or heard.
use Rattle.std.proofs.Common.{sym, ◌∙◌, rules, arith}
use Rattle.packet.specs.Stores.{stores}
use Rattle.receiver.specs.Reading.{with_framing}
use Rattle.receiver.proofs.ReadLaws.{accepts, accepted, framing_in_range_lem, from_least, packed, packet_lengths, quiet_check, ReadCalled_refused, ReadCalled_quiet, ReadCalled-packet}
use Rattle.receiver.proofs.Receiver.read_lent.Goals as goal
use Rattle.receiver.proofs.Receiver.read_lent.Goals.{in-Packet, in_default}

pub returns-in_err-check_read : goal.returns-in_err-check_read
returns-in_err-check_read c =
    let a = c.args in
    let e = ReadCalled_refused a.self.now (stores a.store.now a.given a.long.now) a.bytes.now a.from a.to _ (sym c.check_read.ensures ∙ c.in_err-check_read.was) in
    search rules

pub invariant_of-scan_left : goal.invariant_of-scan_left
invariant_of-scan_left c =
    let known = accepted _ _ _ _ _ (accepts c.check_read.ensures c.in_ok-check_read.was) in
    record { in_order = known.order; lent = known.lent }

pub scan_left-scan-requires : goal.scan_left-scan-requires
scan_left-scan-requires c = framing_in_range_lem _ _ _ _ _ (accepts c.check_read.ensures c.in_ok-check_read.was)

pub overflow_sub-bits : goal.overflow_sub-bits
overflow_sub-bits c = omega (arith, from_least _ _ _ _ _ (accepts c.check_read.ensures c.in_ok-check_read.was) c.scan_left-scan.ensures)

pub shared_ref_as_front-new : goal.shared_ref_as_front-new
shared_ref_as_front-new c =
    omega (arith, packed _ _ _ _ _ (accepts c.check_read.ensures c.in_ok-check_read.was) c.scan_left-scan.ensures c.in-Packet.is)

pub new-requires : goal.new-requires
new-requires c =
    let none = accepts c.check_read.ensures c.in_ok-check_read.was in
    packet_lengths _ _ _ _ _ none c.scan_left-scan.ensures c.in-Packet.is
    (omega (arith, packed _ _ _ _ _ none c.scan_left-scan.ensures c.in-Packet.is))

pub hear-notice-requires : goal.hear-notice-requires
hear-notice-requires c =
    let known = accepted _ _ _ _ _ (accepts c.check_read.ensures c.in_ok-check_read.was) in
    (known.range, known.enough, known.long)

pub returns : goal.returns
unfolding with_framing
returns c =
    let none = accepts c.check_read.ensures c.in_ok-check_read.was in
    elim c.match-scan.branch [
      | in-Packet w ↦
          rw (w.self-is, w.store-is, w.long-is, w.notice-is)
          (ReadCalled-packet _ _ _ _ _ none c.scan_left-scan.ensures w.in-Packet.is (rw w.new.ensures at w.hear-notice.ensures))
      | in_default w ↦
          rw (w.self-is, w.store-is, w.long-is, w.notice-is)
          (ReadCalled_quiet _ _ _ _ _ none c.scan_left-scan.ensures (quiet_check _ w.in_default.not-Packet) w.quiet_notice-notice.ensures)
    ]
