-- `framing_layout::call::read` meets its contract: a refusal leaves all as it was, and otherwise the bits are scanned.
use mathlib.Core.Path.{refl, sym, ◌∙◌, ap}
use native.Mathlib.Omega.{arith}
use Rattle.framing.specs.Range.{in_range}
use Rattle.packet.specs.Answers.{refusal_of}
use Rattle.framing_layout.specs.FramingBytes.{framing_in}
use Rattle.framing_layout.proofs.ReadingLaws.{gives_14, gives_15, gives_0, from_least, given-most, scan_stretch, read_refused, read_scanned}
use Rattle.framing_layout.proofs.call.read.Goals as goal

pub returns-then-not-in_range : goal.returns-then-not-in_range
unfolding refusal_of
returns-then-not-in_range c =
    let a = c.args in
    let range = ap in_range (sym c.framing_in-framing.ensures) ∙ sym c.in_range.ensures ∙ c.if-not-in_range.true in
    read_refused _ _ _ _ _ _ (gives_14 (framing_in a.«record».now 0) a.bits.now a.from a.to range) (λ e. omega arith) refl

pub returns-in_default : goal.returns-in_default
unfolding refusal_of
returns-in_default c =
    let a = c.args in
    let range = ap in_range (sym c.framing_in-framing.ensures) ∙ sym c.in_range.ensures ∙ c.if-not-in_range.false in
    read_refused _ _ _ _ _ _ (gives_15 (framing_in a.«record».now 0) a.bits.now a.from a.to range c.in_default.ensures) (λ e. omega arith) refl

pub put_packet-requires : goal.put_packet-requires
put_packet-requires c =
    let a = c.args in
    let of = c.in-Some.ensures in
    (rw c.length_given.ensures (given-most _ _ a.from a.to (scan_stretch c.framing_in-framing.result c.in-Some.stretch of.1 of.2 of.3 c.scan_left-scan.ensures)), c.requires.1)

pub overflow_sub-scan : goal.overflow_sub-scan
overflow_sub-scan c =
    let a = c.args in
    let of = c.in-Some.ensures in
    from_least _ _ a.from a.to (scan_stretch c.framing_in-framing.result c.in-Some.stretch of.1 of.2 of.3 c.scan_left-scan.ensures)

pub returns : goal.returns
returns c =
    let a = c.args in
    let of = c.in-Some.ensures in
    let range = ap in_range (sym c.framing_in-framing.ensures) ∙ sym c.in_range.ensures ∙ c.if-not-in_range.false in
    read_scanned _ _ _ _ _ _ (gives_0 (framing_in a.«record».now 0) a.bits.now a.from a.to range of.0) refl c.framing_in-framing.ensures
    (scan_stretch c.framing_in-framing.result c.in-Some.stretch of.1 of.2 of.3 c.scan_left-scan.ensures)
    c.put_framing.ensures c.length_given.ensures c.put_packet.ensures c.put_answer.ensures
