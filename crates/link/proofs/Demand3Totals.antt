-- Pass totals over demand 3 are the claim's: what notices count at a circuit number is the losses that they tell of it, and the messages handed over there.
use Prim.Native.Nat.{ℕ, ◌+◌, ◌*◌, ◌≤◌, ◌<◌, min}
use native.Mathlib.Omega.{arith}
use mathlib.Core.Bool.{Bool, true, false, cond}
use mathlib.Core.List.{List, [], ◌∷◌, ◌++◌, map, flatten}
use mathlib.Core.Path.{◌≡◌, refl, ap, ◌∙◌}
use lib.ListN.{length, take, drop, length-append, length-take, length-drop}
use lib.Dec.{ltb, eqb}
use borrow.Author.Tests.{eqb-true, ltb-true, ltb-false}
use Rattle.bits.proofs.Lists.{flatten_append}
use Rattle.bits.proofs.Tests.{and_left}
use Rattle.packet.specs.Lists.{AllAre}
use Rattle.packet.specs.Messages.{longest, longest_long}
use Rattle.packet.specs.Stores.{region, Stores, takes_long, longest_at}
use Rattle.packet.proofs.CircuitLists.{list_refusal-length}
use Rattle.notices.specs.declared.Fate.{Fate}
use Rattle.notices.specs.declared.Fate.TheVariants.{Copy, Begun, Held, Whole, Orphan, Wrong}
use Rattle.notices.specs.declared.Notice.{Notice}
use Rattle.notices.specs.declared.Notice.TheVariants.{End, Spoilt, Malformed, System, Elsewhere, Circuit}
use Rattle.notices.specs.Stores.{system_place, store_length}
use Rattle.notices.proofs.NoticesInRange.{FateInRange, NoticeInRange}
use Rattle.receiver.specs.Reads.{Report}
use Rattle.receiver.proofs.ToldInRange.{ReportInRange, told_in_range}
use Rattle.totals.specs.declared.Figures.{Figures}
use Rattle.totals.specs.Figures.{no_figures, counts, plus, counts_at, totals_at, most, capped}
use Rattle.totals.specs.Totals.{PassTotals}
use Rattle.totals.proofs.CountsNotices.{pass-totals}
use Rattle.link.specs.Demand3.{loss_at, losses_at, handed_from, handed_at, handed_over, notices, Demand3}
use Rattle.link.specs.Demand3Totals.{pass_totals, Demand3Totals}
use Rattle.link.proofs.Steps.{most_if}
use Rattle.link.proofs.MessageParts.{taken_long, most_long}
use Rattle.link.proofs.ClaimHolds.{demand-3}

-- ---- losses and messages, counted

-- the figures are those of this loss and these messages
record Counted (loss : ℕ) (handed : List (List ℕ)) (f : Figures) : Type 0 where
  lost : f.lost ≡ loss
  messages : f.messages ≡ length handed
  bytes : f.bytes ≡ length (flatten handed)

-- none, and those of some and others together
counted_none : Counted 0 [] no_figures
unfolding no_figures flatten
counted_none = record { lost = refl; messages = refl; bytes = refl }

counted_plus : {k l : ℕ} {a b : List (List ℕ)} {f g : Figures} → Counted k a f → Counted l b g → Counted (k + l) (a ++ b) (plus f g)
unfolding plus
counted_plus {a} {b} x y =
    record {
      lost = rw (x.lost, y.lost);
      messages = rw (x.messages, y.messages, length-append);
      bytes = rw (x.bytes, y.bytes, flatten_append a b, length-append);
    }

-- ---- what notices count

-- at a number, where a long buffer is given or not
module _ (given : Bool) (n : ℕ) (n-lt : n < 4) where
  -- the stores hold a region for each number, and a long message where one is taken
  record Holds (l : Stores) : Type 0 where
    store : store_length ≤ length l.store
    long : given ≡ true → longest_long ≤ length l.long

  -- so a whole message is as long as its notice says
  length_handed : (len : ℕ) (l : Stores) → len ≤ longest_at given n → Holds l
      → length (cond (ltb longest len) (take len l.long) (take len (drop (region * n) l.store))) ≡ len
  unfolding longest region system_place store_length longest_at takes_long most_if
  length_handed len l most holds = go (ltb longest len) refl
    where
      go : (b : Bool) → ltb longest len ≡ b → length (cond b (take len l.long) (take len (drop (region * n) l.store))) ≡ len
      go true e =
          let taken : takes_long given n ≡ true = taken_long (takes_long given n) len most (ltb-true longest len e) in
          rw length-take
          (omega (arith, holds.long (and_left given (eqb n 0) taken), most_long (takes_long given n) len most))
      go false e = rw (length-take, length-drop) (omega (arith, holds.store, ltb-false longest len e))

  counted_fate : (fate : Fate) (loss : ℕ) (l : Stores) → FateInRange (longest_at given n) fate → Holds l
      → Counted loss (handed_from fate n l) (counts loss fate)
  unfolding handed_from counts FateInRange flatten
  counted_fate Copy loss l short holds = record { lost = refl; messages = refl; bytes = refl }
  counted_fate Begun loss l short holds = record { lost = refl; messages = refl; bytes = refl }
  counted_fate Held loss l short holds = record { lost = refl; messages = refl; bytes = refl }
  counted_fate (Whole len) loss l short holds =
      record { lost = refl; messages = refl; bytes = rw (length-append, length_handed len l short holds) (omega arith) }
  counted_fate Orphan loss l short holds = record { lost = refl; messages = refl; bytes = refl }
  counted_fate Wrong loss l short holds = record { lost = refl; messages = refl; bytes = refl }

  counted_notice : (m : Notice) (l : Stores) → NoticeInRange given m → Holds l → Counted (loss_at n m) (handed_at n m l) (counts_at n m)
  unfolding loss_at handed_at counts_at NoticeInRange
  counted_notice (Circuit c loss fate) l h holds = go (eqb c n) refl
    where
      go : (b : Bool) → eqb c n ≡ b → Counted (cond b loss 0) (cond b (handed_from fate n l) []) (cond b (counts loss fate) no_figures)
      go true e = counted_fate fate loss l (rw (eqb-true c n e) at h.fate) holds
      go false e = counted_none
  counted_notice End l h holds = counted_none
  counted_notice Spoilt l h holds = counted_none
  counted_notice Malformed l h holds = counted_none
  counted_notice (System enable code len) l h holds = counted_none
  counted_notice Elsewhere l h holds = counted_none

  counted_notices : (ts : List Report) → AllAre (ReportInRange given) ts
      → Counted (losses_at n ts) (handed_over n ts) (totals_at n (map (λ (t : Report). t.notice) ts))
  unfolding losses_at handed_over totals_at AllAre
  counted_notices [] h = counted_none
  counted_notices (t ∷ ts) h =
      counted_plus (counted_notice t.notice t.store h.0.notice (record { store = h.0.enough; long = h.0.long })) (counted_notices ts h.1)

-- ---- a pass

pub demand-3-totals : Demand3Totals
unfolding Demand3Totals Demand3 PassTotals pass_totals capped
demand-3-totals p g no_other n there six =
    let claim = demand-3 p g no_other n there six in
    let n-lt : n < 4 = omega (arith, list_refusal-length p.receiver_list g.receiver_listed) in
    let is = (pass-totals (map (λ (t : Report). t.notice) (notices p))).each n n-lt in
    let f = counted_notices p.receiver_store.given n n-lt (notices p) (told_in_range p.receiver_list p.receiver_store p.reads) in
    record {
      packets_lost = ap (λ (x : Figures). x.lost) is ∙ ap (λ (k : ℕ). min k most) (f.lost ∙ claim.losses);
      messages_whole = λ takes. ap (λ (x : Figures). x.messages) is ∙ ap (λ (k : ℕ). min k most) (f.messages ∙ ap length (claim.handed takes));
      their_bytes = λ takes. ap (λ (x : Figures). x.bytes) is ∙ ap (λ (k : ℕ). min k most) (f.bytes ∙ ap (λ ms. length (flatten ms)) (claim.handed takes));
    }
