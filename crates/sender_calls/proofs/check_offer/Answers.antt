-- `sender_calls::check_offer` meets its contract: its tests are the definition's, in its order.
use Rattle.std.proofs.Common.{◌≡◌, ◌∙◌, true, refl, sym, arith}
use Rattle.packet.specs.Answers.{refusal_of, answered, answer_of}
use Rattle.offering.specs.Record.{in_range}
use Rattle.sender_layout.specs.SenderBytes.{sender_in}
use Rattle.sender_calls.proofs.OffersInPlace.{circuit_there, pending_there}
use Rattle.sender_calls.proofs.check_offer.Goals as goal

pub slot_in-requires : goal.slot_in-requires
slot_in-requires c =
    let range : in_range c.args.given (sender_in c.args.«record».now) ≡ true = sym c.in_range.ensures ∙ c.if-not-in_range.false in
    omega (arith, c.requires, circuit_there _ _ _ _ _ _ range c.from.ensures _ (sym c.check_bounds.ensures ∙ c.in_ok-check_bounds.was))

pub returns-then-pending : goal.returns-then-pending
unfolding answer_of answered refusal_of
returns-then-pending c =
    let range : in_range c.args.given (sender_in c.args.«record».now) ≡ true = sym c.in_range.ensures ∙ c.if-not-in_range.false in
    rw (
      pending_there _ _ _ _ _ _ range c.from.ensures _ (sym c.check_bounds.ensures ∙ c.in_ok-check_bounds.was) (c.pending.ensures ∙ rw c.slot_in.ensures refl),
      c.if-pending.true,
    )

pub returns : goal.returns
unfolding answer_of answered refusal_of
returns c =
    let range : in_range c.args.given (sender_in c.args.«record».now) ≡ true = sym c.in_range.ensures ∙ c.if-not-in_range.false in
    rw (
      pending_there _ _ _ _ _ _ range c.from.ensures _ (sym c.check_bounds.ensures ∙ c.in_ok-check_bounds.was) (c.pending.ensures ∙ rw c.slot_in.ensures refl),
      c.if-pending.false,
    )
