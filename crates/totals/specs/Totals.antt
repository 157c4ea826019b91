-- The record of pass totals (document 02, ask 1): "Keep them in a record beside the receiver, brought up to date with each notice."
use Rattle.std.specs.Prelude.{ℕ, ◌<◌, cond, List, [], ◌∷◌, ◌≡◌, length, set, get_or, replicate, ltb}
use Rattle.notices.specs.declared.Notice.{Notice}
use Rattle.notices.specs.declared.Notice.TheVariants.{End, Spoilt, Malformed, System, Elsewhere, Circuit}
use Rattle.totals.specs.declared.Figures.{Figures}
use Rattle.totals.specs.declared.Totals.{Totals}
use Rattle.totals.specs.Figures.{no_figures, counts, plus, totals_at, capped}

-- the figures of the circuit numbers 0 to 3, with nothing noted
unfoldable pub empty_totals : Totals
empty_totals = record { circuits = replicate 4 no_figures }

-- the figures of a circuit number
unfoldable pub figures_at : Totals → ℕ → Figures
figures_at t c = get_or t.circuits c no_figures

-- the record after a notice; "Circuit numbers above 3 count nowhere", nor does a notice without a circuit
unfoldable pub noted : Totals → Notice → Totals
noted t (Circuit c loss fate) = cond (ltb c 4) (record { circuits = set t.circuits c (capped (plus (figures_at t c) (counts loss fate))) }) t
noted t End = t
noted t Spoilt = t
noted t Malformed = t
noted t (System enable code n) = t
noted t Elsewhere = t

unfoldable pub noted_all : Totals → List Notice → Totals
noted_all t [] = t
noted_all t (n ∷ ns) = noted_all (noted t n) ns

-- "After any list of notices from an empty record, each figure is the smaller of that total over the list and 4,294,967,295", and there are no figures but
-- those of the numbers 0 to 3
pub record CountsNotices (ns : List Notice) : Type 0 where
  pub each : (c : ℕ) → c < 4 → figures_at (noted_all empty_totals ns) c ≡ capped (totals_at c ns)
  pub four : length (noted_all empty_totals ns).circuits ≡ 4

unfoldable pub PassTotals : Type 0
PassTotals = (ns : List Notice) → CountsNotices ns
