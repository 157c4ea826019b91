-- `totals_layout::put_totals` meets its contract: the figures are written one behind the other.
use Rattle.layout.proofs.Copies.{four_written}
use Rattle.totals.specs.Figures.{no_figures}
use Rattle.totals.specs.Totals.{figures_at}
use Rattle.totals_layout.specs.TotalsBytes.{figures_bytes, totals_bytes}
use Rattle.totals_layout.proofs.TotalsRoundTrip.{length-figures_bytes}
use Rattle.totals_layout.proofs.put_totals.Goals as goal

pub returns : goal.returns
unfolding totals_bytes figures_at no_figures
returns c = four_written figures_bytes 16 length-figures_bytes _ 0 _ _ _ _ c.put_figures.ensures c.put_figures-2.ensures c.put_figures-3.ensures c.put_figures-4.ensures
