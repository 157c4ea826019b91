-- `totals_layout::put_figures` meets its contract: the numbers are written one behind the other.
use Rattle.layout.specs.Layout.{low_bytes}
use Rattle.layout.proofs.Parts.{length-low_bytes}
use Rattle.layout.proofs.Copies.{four_written}
use Rattle.totals_layout.specs.TotalsBytes.{figures_bytes}
use Rattle.totals_layout.proofs.put_figures.Goals as goal

pub returns : goal.returns
unfolding figures_bytes
returns c = four_written (low_bytes 4) 4 (length-low_bytes 4) _ _ _ _ _ _ c.put_number.ensures c.put_number-2.ensures c.put_number-3.ensures c.put_number-4.ensures
