-- The bytes of the empty record.
use mathlib.Core.Path.{◌≡◌, refl}
use lib.ListN.{replicate}
use Rattle.layout.specs.Layout.{low_bytes}
use Rattle.totals.specs.Figures.{no_figures}
use Rattle.totals.specs.Totals.{empty_totals, figures_at}
use Rattle.totals_layout.specs.TotalsBytes.{figures_bytes, totals_bytes}

pub totals_empty : totals_bytes empty_totals ≡ replicate 64 0
unfolding totals_bytes figures_bytes low_bytes figures_at empty_totals no_figures
totals_empty = refl
