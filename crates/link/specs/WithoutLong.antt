-- Demand 3 and pass totals over it where the calls are those of document 01, with a long buffer at either end or none: word for word what is claimed without
-- long messages (document 01, "What demand 3 counts"; document 02, ask 1). "An address sent no long message needs neither." (document 02, ask 7) And where
-- neither end has a buffer, the messages are handed over in the regions, as document 01 has it.
use Rattle.std.specs.Prelude.{ℕ, ◌*◌, ◌<◌, min, Bool, true, false, cond, List, [], ◌∷◌, ◌++◌, ◌≡◌, length, take, drop, eqb}
use mathlib.Core.List.{flatten}
use Rattle.packet.specs.Circuits.{circuits_of}
use Rattle.packet.specs.Lists.{all_of}
use Rattle.packet.specs.Stores.{region}
use Rattle.queues.specs.Calls.{Call, offer, offer_long, block}
use Rattle.notices.specs.declared.Fate.{Fate}
use Rattle.notices.specs.declared.Fate.TheVariants.{Copy, Begun, Held, Whole, Orphan, Wrong}
use Rattle.notices.specs.declared.Notice.{Notice}
use Rattle.notices.specs.declared.Notice.TheVariants.{End, Spoilt, Malformed, System, Elsewhere, Circuit}
use Rattle.receiver.specs.Reads.{Report}
use Rattle.totals.specs.Figures.{most}
use Rattle.totals.specs.Totals.{figures_at}
use Rattle.link.specs.Demand3.{Pass, frames, result, came, messages_that_came, from_first_to_last, lost, losses_at, handed_over, notices, Given, no_other_passes, at_most_six_lost, circuit_at}
use Rattle.link.specs.Demand3Totals.{pass_totals}

-- a call of document 01, not the long offer
unfoldable pub is_of01 : Call → Bool
is_of01 (offer c priority repetition text) = true
is_of01 (offer_long priority repetition text) = false
is_of01 (block n u buffer y) = true

unfoldable pub without_long : Pass → Bool
without_long p = all_of is_of01 p.calls

pub record ClaimWithoutLong (p : Pass) (n : ℕ) : Type 0 where
  -- "the sum of the losses reported equals the number of packets lost there after the first to come and before the last"
  pub losses : losses_at n (notices p) ≡ lost (from_first_to_last (came p (circuit_at p n)))
  -- "The messages handed over there are exactly those sent there of which every packet came in some copy, each once, in sending order"
  pub handed : handed_over n (notices p) ≡ messages_that_came p (circuit_at p n)

unfoldable pub Demand3WithoutLong : Type 0
Demand3WithoutLong =
    (p : Pass) → without_long p ≡ true → Given p → no_other_passes (result p) (frames p) ≡ true →
    (n : ℕ) → n < length (circuits_of p.receiver_list) → at_most_six_lost (came p (circuit_at p n)) ≡ true →
    ClaimWithoutLong p n

pub record TotalsWithoutLong (p : Pass) (n : ℕ) : Type 0 where
  -- packets lost: "the number of packets lost there after the first to come and before the last" (the brief)
  pub packets_lost : (figures_at (pass_totals p) n).lost ≡ min (lost (from_first_to_last (came p (circuit_at p n)))) most
  -- messages whole: as many as those "sent there of which every packet came in some copy" (the brief)
  pub messages_whole : (figures_at (pass_totals p) n).messages ≡ min (length (messages_that_came p (circuit_at p n))) most
  -- "their bytes": those of all these messages
  pub their_bytes : (figures_at (pass_totals p) n).bytes ≡ min (length (flatten (messages_that_came p (circuit_at p n)))) most

unfoldable pub Demand3TotalsWithoutLong : Type 0
Demand3TotalsWithoutLong =
    (p : Pass) → without_long p ≡ true → Given p → no_other_passes (result p) (frames p) ≡ true →
    (n : ℕ) → n < length (circuits_of p.receiver_list) → at_most_six_lost (came p (circuit_at p n)) ≡ true →
    TotalsWithoutLong p n

-- ---- without buffers

-- "for each Whole among them in order, the start of the region, as long as that notice says, when its reading call returned"
unfoldable pub region_from : Fate → ℕ → List ℕ → List (List ℕ)
region_from (Whole len) n store = take len (drop (region * n) store) ∷ []
region_from Copy n store = []
region_from Begun n store = []
region_from Held n store = []
region_from Orphan n store = []
region_from Wrong n store = []

unfoldable pub region_at : ℕ → Notice → List ℕ → List (List ℕ)
region_at n (Circuit c loss fate) store = cond (eqb c n) (region_from fate n store) []
region_at n End store = []
region_at n Spoilt store = []
region_at n Malformed store = []
region_at n (System enable code len) store = []
region_at n Elsewhere store = []

unfoldable pub in_regions : ℕ → List Report → List (List ℕ)
in_regions n [] = []
in_regions n (t ∷ ts) = region_at n t.notice t.store.store ++ in_regions n ts

pub record ClaimWithoutBuffers (p : Pass) (n : ℕ) : Type 0 where
  -- "the sum of the losses reported equals the number of packets lost there after the first to come and before the last"
  pub losses : losses_at n (notices p) ≡ lost (from_first_to_last (came p (circuit_at p n)))
  -- "The messages handed over there are exactly those sent there of which every packet came in some copy, each once, in sending order"
  pub handed : in_regions n (notices p) ≡ messages_that_came p (circuit_at p n)

unfoldable pub Demand3WithoutBuffers : Type 0
Demand3WithoutBuffers =
    (p : Pass) → without_long p ≡ true → p.sender_store.given ≡ false → p.receiver_store.given ≡ false → Given p
    → no_other_passes (result p) (frames p) ≡ true →
    (n : ℕ) → n < length (circuits_of p.receiver_list) → at_most_six_lost (came p (circuit_at p n)) ≡ true →
    ClaimWithoutBuffers p n
