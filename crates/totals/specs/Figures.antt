-- The figures of a circuit (document 02, ask 1): "Operators read a pass by four figures for each circuit: messages whole, their bytes, packets lost, packets
-- orphaned."
use Rattle.std.specs.Prelude.{ℕ, ◌+◌, min, cond, List, [], ◌∷◌, eqb}
use Rattle.notices.specs.declared.Fate.{Fate}
use Rattle.notices.specs.declared.Fate.TheVariants.{Copy, Begun, Held, Whole, Orphan, Wrong}
use Rattle.notices.specs.declared.Notice.{Notice}
use Rattle.notices.specs.declared.Notice.TheVariants.{End, Spoilt, Malformed, System, Elsewhere, Circuit}
use Rattle.totals.specs.declared.Figures.{Figures}

unfoldable pub no_figures : Figures
no_figures = record { messages = 0; bytes = 0; lost = 0; orphaned = 0 }

-- what a notice counts at its circuit: its loss in packets lost, whatever became of the packet; at Whole a message and its bytes; at Orphan a packet orphaned
unfoldable pub counts : ℕ → Fate → Figures
counts loss Copy = record { messages = 0; bytes = 0; lost = loss; orphaned = 0 }
counts loss Begun = record { messages = 0; bytes = 0; lost = loss; orphaned = 0 }
counts loss Held = record { messages = 0; bytes = 0; lost = loss; orphaned = 0 }
counts loss (Whole n) = record { messages = 1; bytes = n; lost = loss; orphaned = 0 }
counts loss Orphan = record { messages = 0; bytes = 0; lost = loss; orphaned = 1 }
counts loss Wrong = record { messages = 0; bytes = 0; lost = loss; orphaned = 0 }

-- figure by figure
unfoldable pub plus : Figures → Figures → Figures
plus f g =
    record { messages = f.messages + g.messages; bytes = f.bytes + g.bytes; lost = f.lost + g.lost; orphaned = f.orphaned + g.orphaned }

-- what a notice counts at circuit number c
unfoldable pub counts_at : ℕ → Notice → Figures
counts_at c (Circuit n loss fate) = cond (eqb n c) (counts loss fate) no_figures
counts_at c End = no_figures
counts_at c Spoilt = no_figures
counts_at c Malformed = no_figures
counts_at c (System enable code n) = no_figures
counts_at c Elsewhere = no_figures

-- "that total over the list", of each figure
unfoldable pub totals_at : ℕ → List Notice → Figures
totals_at c [] = no_figures
totals_at c (n ∷ ns) = plus (counts_at c n) (totals_at c ns)

-- "each figure is the smaller of that total .. and 4,294,967,295"
unfoldable pub most : ℕ
most = 4294967295

unfoldable pub capped : Figures → Figures
capped f = record { messages = min f.messages most; bytes = min f.bytes most; lost = min f.lost most; orphaned = min f.orphaned most }
