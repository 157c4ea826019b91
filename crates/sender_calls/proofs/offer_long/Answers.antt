-- `sender_calls::offer_long` meets its contract: a refusal leaves all as it was; otherwise the message lies in the long buffer, and circuit 0's slot is written.
use Rattle.std.proofs.Common.{true, sym, ap, refl, rules, arith}
use Rattle.std.proofs.lemmas.Result.{err_from_is_err_and}
use Rattle.bits.proofs.Bits.{Bytes_each}
use Rattle.packet.specs.Stores.{stores}
use Rattle.offering.specs.Offering.{offered_long}
use Rattle.offering.proofs.Offers.{long_room}
use Rattle.sender_calls.proofs.OffersInPlace.{long_refused, long-accepted}
use Rattle.sender_calls.proofs.offer_long.Goals as goal

pub returns-in_err-check_long : goal.returns-in_err-check_long
returns-in_err-check_long c =
    let p = err_from_is_err_and c.from_residual.result c.from_residual.ensures.1 in
    rw (p.1, p.2) (long_refused _ _ _ _ _ _ (sym c.in_err-check_long.ensures))

pub copy_in-requires : goal.copy_in-requires
copy_in-requires c = (long_room _ _ _ _ _ _ (sym c.in_ok-check_long.ensures)).1

pub put-requires : goal.put-requires
put-requires c =
    let room = long_room _ _ _ _ _ _ (sym c.in_ok-check_long.ensures) in
    let (circuit, priority, repetition, message) = c.numbered.ensures in
    rw (circuit, message) (c.requires, omega arith, room.0)

pub returns : goal.returns
unfolding offered_long
returns c =
    let (circuit, priority, repetition, message) = c.numbered.ensures in
    long-accepted _ _ _ _ _ _ (sym c.in_ok-check_long.ensures) (Bytes_each _ (λ i. search rules)) c.requires refl
    (rw (circuit, priority, repetition, message) at c.put.ensures) (ap (λ bytes. stores c.args.store.now true bytes) c.copy_in.ensures)
