-- Pass totals over demand 3 (document 02, ask 1): where demand 3 claims something of an address, the figures that operators read there are the claim's, each
-- up to the most that a figure says. Of packets orphaned the claim says nothing, and of messages nothing where a long one is sent that the receiver does not
-- take.
use Rattle.std.specs.Prelude.{ℕ, ◌<◌, min, true, ◌≡◌, length}
use mathlib.Core.List.{map, flatten}
use Rattle.packet.specs.Circuits.{circuits_of}
use Rattle.receiver.specs.Reads.{Report}
use Rattle.totals.specs.declared.Totals.{Totals}
use Rattle.totals.specs.Figures.{most}
use Rattle.totals.specs.Totals.{empty_totals, figures_at, noted_all}
use Rattle.link.specs.Demand3.{Pass, frames, result, came, messages_that_came, from_first_to_last, lost, notices, Given, no_other_passes, at_most_six_lost, circuit_at, takes_all_sent}

-- "a record beside the receiver, brought up to date with each notice" that the reading calls tell, "from an empty record"
unfoldable pub pass_totals : Pass → Totals
pass_totals p = noted_all empty_totals (map (λ (t : Report). t.notice) (notices p))

-- "each figure is the smaller of that total .. and 4,294,967,295", where the total is the number that demand 3 claims
pub record TotalsOfClaim (p : Pass) (n : ℕ) : Type 0 where
  -- packets lost: "the number of packets lost there after the first to come and before the last" (the brief)
  pub packets_lost : (figures_at (pass_totals p) n).lost ≡ min (lost (from_first_to_last (came p (circuit_at p n)))) most
  -- messages whole: as many as those "sent there of which every packet came in some copy" (the brief)
  pub messages_whole : takes_all_sent p n ≡ true → (figures_at (pass_totals p) n).messages ≡ min (length (messages_that_came p (circuit_at p n))) most
  -- "their bytes": those of all these messages
  pub their_bytes : takes_all_sent p n ≡ true → (figures_at (pass_totals p) n).bytes ≡ min (length (flatten (messages_that_came p (circuit_at p n)))) most

-- exactly where demand 3 claims something
unfoldable pub Demand3Totals : Type 0
Demand3Totals =
    (p : Pass) → Given p → no_other_passes (result p) (frames p) ≡ true →
    (n : ℕ) → n < length (circuits_of p.receiver_list) → at_most_six_lost (came p (circuit_at p n)) ≡ true →
    TotalsOfClaim p n
