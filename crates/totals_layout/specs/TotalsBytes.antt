-- The record of pass totals in 64 bytes: for each circuit number 0 to 3 its figures, numbers of four bytes.
use Rattle.std.specs.Prelude.{ℕ, ◌+◌, List, [], ◌∷◌, ◌++◌}
use Rattle.totals.specs.declared.Figures.{Figures}
use Rattle.totals.specs.declared.Totals.{Totals}
use Rattle.totals.specs.Totals.{figures_at}
use Rattle.layout.specs.Layout.{low_bytes, number_at}

abbrev pub totals_length : ℕ
totals_length = 64

-- figures, 16 bytes: messages whole, their bytes, packets lost, packets orphaned
unfoldable pub figures_bytes : Figures → List ℕ
figures_bytes f = low_bytes 4 f.messages ++ low_bytes 4 f.bytes ++ low_bytes 4 f.lost ++ low_bytes 4 f.orphaned

unfoldable pub figures_in : List ℕ → ℕ → Figures
figures_in bytes at =
    record {
      messages = number_at 4 bytes at;
      bytes = number_at 4 bytes (at + 4);
      lost = number_at 4 bytes (at + 8);
      orphaned = number_at 4 bytes (at + 12);
    }

unfoldable pub totals_bytes : Totals → List ℕ
totals_bytes t =
    figures_bytes (figures_at t 0) ++ figures_bytes (figures_at t 1) ++ figures_bytes (figures_at t 2) ++ figures_bytes (figures_at t 3)

unfoldable pub totals_in : List ℕ → Totals
totals_in bytes = record { circuits = figures_in bytes 0 ∷ figures_in bytes 16 ∷ figures_in bytes 32 ∷ figures_in bytes 48 ∷ [] }
