-- After any list of notices from the empty record each figure is the smaller of its total and the most that a figure says.
use Prim.Native.Nat.{ℕ, ◌+◌, ◌<◌, min}
use mathlib.Core.Bool.{Bool, true, false, cond}
use mathlib.Core.List.{List, [], ◌∷◌}
use mathlib.Core.Path.{◌≡◌, refl, sym, ap, subst, ◌∙◌}
use native.Mathlib.Omega.{arith}
use borrow.Author.Tests.{lt-ltb, eqb-true, eqb-false}
use lib.ListN.{length, set, get_or, length-set, get_or-replicate}
use lib.Seq.{get_or-set_same, get_or-set_other}
use lib.Dec.{ltb, eqb}
use Rattle.notices.specs.declared.Notice.{Notice}
use Rattle.notices.specs.declared.Notice.TheVariants.{End, Spoilt, Malformed, System, Elsewhere, Circuit}
use Rattle.totals.specs.declared.Figures.{Figures}
use Rattle.totals.specs.declared.Totals.{Totals}
use Rattle.totals.specs.Figures.{no_figures, counts, plus, counts_at, totals_at, most, capped}
use Rattle.totals.specs.Totals.{empty_totals, figures_at, noted, noted_all, PassTotals}

-- ---- figures

-- capping twice, with more in between, is capping once
capped-plus : (f g h : Figures) → capped (plus (capped (plus f g)) h) ≡ capped (plus f (plus g h))
unfolding capped plus
capped-plus f g h = λ i.
    record {
      messages = each f.messages g.messages h.messages i;
      bytes = each f.bytes g.bytes h.bytes i;
      lost = each f.lost g.lost h.lost i;
      orphaned = each f.orphaned g.orphaned h.orphaned i;
    }
  where
    each : (x y z : ℕ) → min (min (x + y) most + z) most ≡ min (x + (y + z)) most
    each x y z = omega arith

again : (f : Figures) → capped (capped f) ≡ capped f
unfolding capped
again f = λ i.
    record { messages = each f.messages i; bytes = each f.bytes i; lost = each f.lost i; orphaned = each f.orphaned i }
  where
    each : (x : ℕ) → min (min x most) most ≡ min x most
    each x = omega arith

plus_none : (f : Figures) → plus f no_figures ≡ f
unfolding plus no_figures
plus_none f = λ i.
    record { messages = none f.messages i; bytes = none f.bytes i; lost = none f.lost i; orphaned = none f.orphaned i }
  where
    none : (x : ℕ) → x + 0 ≡ x
    none x = omega arith

none-plus : (f : Figures) → plus no_figures f ≡ f
unfolding plus no_figures
none-plus f = λ i.
    record { messages = none f.messages i; bytes = none f.bytes i; lost = none f.lost i; orphaned = none f.orphaned i }
  where
    none : (x : ℕ) → 0 + x ≡ x
    none x = omega arith

-- ---- the record, of four circuits

noted_four : (t : Totals) (n : Notice) → length (noted t n).circuits ≡ length t.circuits
unfolding noted
noted_four t (Circuit c loss fate) = go (ltb c 4)
  where
    go : (b : Bool)
        → length (cond b (record { circuits = set t.circuits c (capped (plus (figures_at t c) (counts loss fate))) }) t).circuits ≡ length t.circuits
    go true = length-set t.circuits c _
    go false = refl
noted_four t End = refl
noted_four t Spoilt = refl
noted_four t Malformed = refl
noted_four t (System enable code n) = refl
noted_four t Elsewhere = refl

-- a notice that counts nothing at a circuit leaves its figures, which are capped
left : (f g : Figures) → capped f ≡ f → g ≡ no_figures → f ≡ capped (plus f g)
left f g k none = sym k ∙ ap capped (sym (plus_none f) ∙ ap (plus f) (sym none))

-- a notice adds what it counts
noted_at : (t : Totals) (n : Notice) (c : ℕ) → c < 4 → length t.circuits ≡ 4 → capped (figures_at t c) ≡ figures_at t c
    → figures_at (noted t n) c ≡ capped (plus (figures_at t c) (counts_at c n))
unfolding noted counts_at figures_at
noted_at t (Circuit d loss fate) c below four k = go (eqb d c) refl
  where
    new : Totals
    new = record { circuits = set t.circuits d (capped (plus (get_or t.circuits d no_figures) (counts loss fate))) }

    other : (b : Bool) → eqb d c ≡ false → get_or (cond b new t).circuits c no_figures ≡ get_or t.circuits c no_figures
    other true e = get_or-set_other t.circuits d c _ no_figures (λ same. eqb-false d c e (sym same))
    other false e = refl

    go : (b : Bool) → eqb d c ≡ b
        → get_or (cond (ltb d 4) new t).circuits c no_figures ≡ capped (plus (get_or t.circuits c no_figures) (cond b (counts loss fate) no_figures))
    go true e =
        let same : d ≡ c = eqb-true d c e in
        ap (λ b. get_or (cond b new t).circuits c no_figures) (lt-ltb d 4 (omega (arith, same, below))) ∙
        subst (λ x. get_or (set t.circuits x (capped (plus (get_or t.circuits x no_figures) (counts loss fate)))) c no_figures
        ≡ capped (plus (get_or t.circuits c no_figures) (counts loss fate)))
        (sym same) (get_or-set_same t.circuits c _ no_figures (omega (arith, four, below)))
    go false e = other (ltb d 4) e ∙ left _ _ k refl
noted_at t End c below four k = left _ _ k refl
noted_at t Spoilt c below four k = left _ _ k refl
noted_at t Malformed c below four k = left _ _ k refl
noted_at t (System enable code n) c below four k = left _ _ k refl
noted_at t Elsewhere c below four k = left _ _ k refl

-- any notices after another
noted-all : (ns : List Notice) (t : Totals) (c : ℕ) → c < 4 → length t.circuits ≡ 4 → capped (figures_at t c) ≡ figures_at t c
    → figures_at (noted_all t ns) c ≡ capped (plus (figures_at t c) (totals_at c ns))
unfolding noted_all totals_at
noted-all [] t c below four k = left _ _ k refl
noted-all (n ∷ ns) t c below four k =
    let at = noted_at t n c below four k in
    noted-all ns (noted t n) c below (noted_four t n ∙ four) (ap capped at ∙ again _ ∙ sym at)
    ∙ ap (λ f. capped (plus f (totals_at c ns))) at
    ∙ capped-plus (figures_at t c) (counts_at c n) (totals_at c ns)

all_four : (ns : List Notice) (t : Totals) → length (noted_all t ns).circuits ≡ length t.circuits
unfolding noted_all
all_four [] t = refl
all_four (n ∷ ns) t = all_four ns (noted t n) ∙ noted_four t n

-- the empty record
empty_at : (c : ℕ) → c < 4 → figures_at empty_totals c ≡ no_figures
unfolding figures_at empty_totals
empty_at c below = get_or-replicate 4 c no_figures no_figures below

pub pass-totals : PassTotals
unfolding PassTotals empty_totals no_figures capped most
pass-totals ns =
    record {
      each = λ c below.
          noted-all ns empty_totals c below refl (rw (empty_at c below) refl) ∙
          ap (λ f. capped (plus f (totals_at c ns))) (empty_at c below) ∙ ap capped (none-plus (totals_at c ns));
      four = all_four ns empty_totals;
    }
