-- Where no long message is offered none is sent, and so demand 3 and pass totals over it need no condition.
use Prim.Native.Nat.{ℕ, ◌≤◌}
use mathlib.Core.Bool.{true, false, cond, true≢false}
use mathlib.Core.List.{List, [], ◌∷◌}
use mathlib.Core.Path.{◌≡◌, refl, sym, ap, subst, ◌∙◌}
use borrow.Author.Tests.{eqb-true, le-ltb}
use lib.ListN.{length}
use lib.Dec.{ltb, eqb}
use Rattle.bits.proofs.Tests.{and_left, and_right, or_both}
use Rattle.packet.specs.Circuits.{alike}
use Rattle.packet.specs.Messages.{longest}
use Rattle.packet.specs.Lists.{any_of, all_of, AllAre}
use Rattle.packet.specs.Stores.{Stores, takes_long, longest_at}
use Rattle.packet.proofs.Lists.{AllAre_append}
use Rattle.notices.specs.declared.Fate.{Fate}
use Rattle.notices.specs.declared.Fate.TheVariants.{Copy, Begun, Held, Whole, Orphan, Wrong}
use Rattle.notices.specs.declared.Notice.{Notice}
use Rattle.notices.specs.declared.Notice.TheVariants.{End as EndNotice, Spoilt, Malformed, System, Elsewhere, Circuit}
use Rattle.notices.proofs.NoticesInRange.{FateInRange, NoticeInRange}
use Rattle.receiver.specs.Reads.{Report}
use Rattle.receiver.proofs.ToldInRange.{ReportInRange, told_in_range}
use Rattle.offering.specs.Offering.{offer_refusal}
use Rattle.offering.proofs.Offers.{offer_refusal-zero}
use Rattle.queues.specs.Queues.{Message, message_for, Queues}
use Rattle.queues.specs.Effects.{sent_by, queues_after_effect, messages_sent}
use Rattle.queues.specs.Calls.{Call, offer, offer_long, block, End, accepted, after_call, effect, effect_of, effects}
use Rattle.queues.specs.Sent.{messages_at}
use Rattle.queues.proofs.StandsCalls.{effect_of_cases}
use Rattle.link.specs.Demand3.{Pass, sender, queues, messages, handed_from, handed_at, handed_over, notices, circuit_at, sent_long, takes_all_sent, Claim, Demand3}
use Rattle.link.specs.Demand3Totals.{Demand3Totals}
use Rattle.link.specs.WithoutLong.{is_of01, without_long, ClaimWithoutLong, Demand3WithoutLong, Demand3TotalsWithoutLong, region_from, region_at, in_regions, Demand3WithoutBuffers}
use Rattle.link.proofs.ClaimHolds.{AllAre-those, demand-3}
use Rattle.link.proofs.Demand3Totals.{demand-3-totals}

-- a message that is not long
abbrev Short : Message → Type 0
Short m = length m.text ≤ longest

-- the calls of document 01 send no other
short_call : (call : Call) (e : End) (q : Queues) → is_of01 call ≡ true → accepted e call ≡ true → AllAre Short (sent_by q (effect call))
unfolding is_of01 accepted effect sent_by message_for AllAre
short_call (offer c priority repetition text) e q old a =
    ((offer_refusal-zero e.sender e.store c priority repetition text (eqb-true (offer_refusal e.sender e.store c priority repetition text) 0 a)).short, tt)
short_call (offer_long priority repetition text) e q old a = absurd (true≢false (sym old))
short_call (block n u buffer y) e q old a = tt

short_calls : (calls : List Call) (e : End) (q : Queues) → all_of is_of01 calls ≡ true → AllAre Short (messages_sent q (effects e calls))
unfolding all_of effects messages_sent sent_by AllAre
short_calls [] e q old = tt
short_calls (call ∷ calls) e q old =
    AllAre_append Short (sent_by q (effect_of e call)) _
    (effect_of_cases (λ x. AllAre Short (sent_by q x)) call e (short_call call e q (and_left (is_of01 call) _ old)) tt)
    (short_calls calls (after_call e call) (queues_after_effect q (effect_of e call)) (and_right (is_of01 call) _ old))

short_none : (ms : List Message) → AllAre Short ms → any_of (λ (m : Message). ltb longest (length m.text)) ms ≡ false
unfolding AllAre any_of
short_none [] h = refl
short_none (m ∷ ms) h = or_both (ltb longest (length m.text)) _ (le-ltb longest (length m.text) h.0) (short_none ms h.1)

-- so the receiver takes all that is sent
pub takes_all : (p : Pass) (n : ℕ) → without_long p ≡ true → takes_all_sent p n ≡ true
unfolding without_long takes_all_sent sent_long messages messages_at
takes_all p n old =
    rw (short_none (messages p (circuit_at p n))
    (AllAre-those Short (λ (m : Message). alike (circuit_at p n) m.circuit) _ (short_calls p.calls (sender p) (queues p) old)))

pub claim_without_long : (p : Pass) (n : ℕ) → without_long p ≡ true → Claim p n → ClaimWithoutLong p n
claim_without_long p n old claim = record { losses = claim.losses; handed = claim.handed (takes_all p n old) }

pub demand-3-without-long : Demand3WithoutLong
unfolding Demand3 Demand3WithoutLong
demand-3-without-long p old g no_other n there six = claim_without_long p n old (demand-3 p g no_other n there six)

pub demand-3-totals-without-long : Demand3TotalsWithoutLong
unfolding Demand3Totals Demand3TotalsWithoutLong
demand-3-totals-without-long p old g no_other n there six =
    let t = demand-3-totals p g no_other n there six in
    let takes = takes_all p n old in
    record { packets_lost = t.packets_lost; messages_whole = t.messages_whole takes; their_bytes = t.their_bytes takes }

-- ---- without buffers

-- a whole message of at most 4,094 bytes is handed over in its region
region_is : (fate : Fate) (n : ℕ) (l : Stores) → FateInRange longest fate → handed_from fate n l ≡ region_from fate n l.store
unfolding handed_from region_from FateInRange
region_is (Whole len) n l short = rw (le-ltb longest len short)
region_is Copy n l short = refl
region_is Begun n l short = refl
region_is Held n l short = refl
region_is Orphan n l short = refl
region_is Wrong n l short = refl

region_told : (n : ℕ) (notice : Notice) (l : Stores) → NoticeInRange false notice → handed_at n notice l ≡ region_at n notice l.store
unfolding handed_at region_at NoticeInRange longest_at takes_long
region_told n (Circuit c loss fate) l h = ap (λ ms. cond (eqb c n) ms []) (region_is fate n l h.fate)
region_told n EndNotice l h = refl
region_told n Spoilt l h = refl
region_told n Malformed l h = refl
region_told n (System enable code len) l h = refl
region_told n Elsewhere l h = refl

regions_told : (n : ℕ) (ts : List Report) → AllAre (ReportInRange false) ts → handed_over n ts ≡ in_regions n ts
unfolding handed_over in_regions AllAre
regions_told n [] h = refl
regions_told n (t ∷ ts) h = rw (region_told n t.notice t.store h.0.notice, regions_told n ts h.1)

pub demand-3-without-buffers : Demand3WithoutBuffers
unfolding Demand3WithoutLong Demand3WithoutBuffers
demand-3-without-buffers p old _ none g no_other n there six =
    let claim = demand-3-without-long p old g no_other n there six in
    let told = subst (λ b. AllAre (ReportInRange b) (notices p)) none (told_in_range p.receiver_list p.receiver_store p.reads) in
    record { losses = claim.losses; handed = sym (regions_told n (notices p) told) ∙ claim.handed }
