-- The record of totals and its 64 bytes determine each other: every record's bytes are unpacked to it, and all bytes are some record's.
use mathlib.Core.Path.{◌≡◌, refl}
use Prim.Native.Nat.{ℕ, ◌+◌, ◌≤◌}
use native.Mathlib.Omega.{arith}
use mathlib.Core.List.{List, [], ◌∷◌, ◌++◌}
use lib.ListN.{length, take}
use lib.Seq.{slice_empty}
use Rattle.bits.specs.Bits.{Bytes}
use Rattle.packet.specs.Lists.{AllAre}
use Rattle.layout.specs.Layout.{low_bytes, byte_at, number_at}
use Rattle.layout.proofs.Parts.{number_fits, number_unpacks, number_packs, four_elements, read_slice}
use Rattle.totals.specs.declared.Figures.{Figures}
use Rattle.totals.specs.declared.Totals.{Totals}
use Rattle.totals.specs.Figures.{no_figures}
use Rattle.totals.specs.Totals.{figures_at}
use Rattle.totals_layout.specs.TotalsBytes.{totals_length, figures_bytes, figures_in, totals_bytes, totals_in}
use Rattle.totals_layout.specs.Fits.{FiguresFit, TotalsFit}

pub length-figures_bytes : (f : Figures) → length (figures_bytes f) ≡ 16
unfolding figures_bytes low_bytes
length-figures_bytes f = refl

pub length-totals_bytes : (t : Totals) → length (totals_bytes t) ≡ totals_length
unfolding totals_bytes figures_bytes low_bytes
length-totals_bytes t = refl

-- ---- unpacking what was packed gives the record back

figures_unpack : (f : Figures) → FiguresFit f → figures_in (figures_bytes f) 0 ≡ f
unfolding figures_in figures_bytes low_bytes number_at byte_at
figures_unpack f fits = λ i.
    record {
      messages = number_unpacks 4 f.messages fits.messages [] i;
      bytes = number_unpacks 4 f.bytes fits.bytes [] i;
      lost = number_unpacks 4 f.lost fits.lost [] i;
      orphaned = number_unpacks 4 f.orphaned fits.orphaned [] i;
    }

pub totals_unpack : (t : Totals) → TotalsFit t → (rest : List ℕ) → totals_in (totals_bytes t ++ rest) ≡ t
unfolding TotalsFit totals_in totals_bytes figures_at no_figures figures_in figures_bytes low_bytes number_at byte_at
totals_unpack t fits rest =
    four_elements (λ l. totals_in (totals_bytes (record { circuits = l }) ++ rest) ≡ record { circuits = l })
    (λ a b c d fa fb fc fd i. record { circuits = figures_unpack a fa i ∷ figures_unpack b fb i ∷ figures_unpack c fc i ∷ figures_unpack d fd i ∷ [] })
    t.circuits fits

-- ---- packing what was unpacked gives the bytes back, whichever they are

pub totals_pack : (bytes : List ℕ) → Bytes bytes → totals_length ≤ length bytes → totals_bytes (totals_in bytes) ≡ take totals_length bytes
unfolding totals_in totals_bytes figures_at no_figures figures_in figures_bytes
totals_pack bytes are long =
    simp (number_packs 4 bytes are) (rw (slice_empty 64 bytes) at (read_slice 64 bytes 0 64 (omega arith) long))

pub totals_fit : (bytes : List ℕ) → Bytes bytes → TotalsFit (totals_in bytes)
unfolding TotalsFit totals_in figures_in AllAre
totals_fit bytes are = record { four = refl; each = (figures 0, (figures 16, (figures 32, (figures 48, tt)))) }
  where
    figures : (at : ℕ) → FiguresFit (figures_in bytes at)
    figures at =
        record {
          messages = number_fits 4 bytes are at;
          bytes = number_fits 4 bytes are (at + 4);
          lost = number_fits 4 bytes are (at + 8);
          orphaned = number_fits 4 bytes are (at + 12);
        }
