-- `sender_calls::offer` meets its contract: a refusal leaves all as it was; otherwise the message lies in its circuit's region, and the slot is written.
use Rattle.std.proofs.Common.{sym, ap, refl, rules}
use Rattle.std.proofs.lemmas.Result.{err_from_is_err_and}
use Rattle.bits.proofs.Bits.{Bytes_each}
use Rattle.packet.specs.Stores.{stores}
use Rattle.offering.specs.Offering.{offered_stores}
use Rattle.sender_calls.proofs.OffersInPlace.{offer_refused, room, offer-accepted}
use Rattle.sender_calls.proofs.offer.Goals as goal

pub returns-in_err-check_offer : goal.returns-in_err-check_offer
returns-in_err-check_offer c =
    let p = err_from_is_err_and c.from_residual.result c.from_residual.ensures.1 in
    rw (p.1, p.2) (offer_refused _ _ _ _ _ _ _ (sym c.in_err-check_offer.ensures))

pub accept-requires : goal.accept-requires
accept-requires c =
    let (four, short, fits) = room _ _ _ _ _ _ _ (sym c.in_ok-check_offer.ensures) in
    (c.requires, four, short, fits)

pub returns : goal.returns
unfolding offered_stores
returns c =
    offer-accepted _ _ _ _ _ _ _ (sym c.in_ok-check_offer.ensures) (Bytes_each _ (λ i. search rules)) c.requires refl
    c.accept.ensures.0 (ap (λ bytes. stores bytes c.args.given c.args.long.now) c.accept.ensures.1)
