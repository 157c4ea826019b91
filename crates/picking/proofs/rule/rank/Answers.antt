-- `picking::rule::rank` meets its contract, test by test.
use Rattle.std.proofs.Common.{◌≤◌, true, sym, ◌∙◌, arith}
use Rattle.offering.specs.Record.{no_slot, slot_at}
use Rattle.offering.proofs.Ranges.{slot_in_range_facts, in_range_facts, slot_in_range-slot_at}
use Rattle.picking.proofs.PickingLaws.{rank_unlisted, rank_disabled, rank-none, rank_waits}
use Rattle.picking.proofs.rule.rank.Goals as goal

pub returns-then-sender-circuit : goal.returns-then-sender-circuit
returns-then-sender-circuit c =
    let a = c.args in
    sym (rank_unlisted a.sender a.enable a.circuit (omega (arith, c.if-sender-circuit.true)))

pub enabled-requires : goal.enabled-requires
unfolding slot_at no_slot
enabled-requires c =
    let priority : (slot_at c.args.sender c.args.circuit).priority ≤ 3 =
    (slot_in_range_facts _ (slot_in_range-slot_at true c.args.sender c.args.circuit c.requires.sender_value c.if-sender-circuit.false)).priority in
    omega (arith, priority)

pub returns-then-not-enabled : goal.returns-then-not-enabled
unfolding slot_at no_slot
returns-then-not-enabled c =
    let a = c.args in
    sym (rank_disabled a.sender a.enable a.circuit c.if-sender-circuit.false (sym c.enabled.ensures ∙ c.if-not-enabled.true))

pub returns-then-not-pending : goal.returns-then-not-pending
unfolding slot_at no_slot
returns-then-not-pending c =
    let a = c.args in
    sym
    (rank-none a.sender a.enable a.circuit c.if-sender-circuit.false (sym c.enabled.ensures ∙ c.if-not-enabled.false)
    (sym c.pending.ensures ∙ c.if-not-pending.true))

pub overflow_sub-later : goal.overflow_sub-later
overflow_sub-later c =
    omega (arith, (in_range_facts c.args.sender c.requires.sender_value).last)

pub overflow_mul-result : goal.overflow_mul-result
unfolding slot_at no_slot
overflow_mul-result c =
    let priority : (slot_at c.args.sender c.args.circuit).priority ≤ 3 =
    (slot_in_range_facts _ (slot_in_range-slot_at true c.args.sender c.args.circuit c.requires.sender_value c.if-sender-circuit.false)).priority in
    record { fits = omega (arith, priority) }

pub overflow_add-result : goal.overflow_add-result
unfolding slot_at no_slot
overflow_add-result c =
    let priority : (slot_at c.args.sender c.args.circuit).priority ≤ 3 =
    (slot_in_range_facts _ (slot_in_range-slot_at true c.args.sender c.args.circuit c.requires.sender_value c.if-sender-circuit.false)).priority in
    record { fits = omega (arith, priority) }

pub returns : goal.returns
unfolding slot_at no_slot
returns c =
    let a = c.args in
    sym
    (rank_waits a.sender a.enable a.circuit c.if-sender-circuit.false (sym c.enabled.ensures ∙ c.if-not-enabled.false)
    (sym c.pending.ensures ∙ c.if-not-pending.false))
