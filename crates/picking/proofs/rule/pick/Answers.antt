-- `picking::rule::pick` meets its contract. The loop's invariant: of the circuits looked at so far, the one kept has the highest rank, if any has one.
use Rattle.std.proofs.Common.{◌≡◌, ℕ, ◌+◌, ◌<◌, ◌≤◌, Bool, true, false, eqb, sym, refl, arith, eqb-true}
use borrow.Author.Tests.{eqb-false}
use Rattle.offering.specs.declared.Sender.{Sender}
use Rattle.picking.specs.Picked.{rank}
use Rattle.picking.proofs.PickingLaws.{pick_nobody, pick_best}
use Rattle.picking.proofs.rule.pick.Invariants.{Best}
use Rattle.picking.proofs.rule.pick.Goals as goal
use Rattle.picking.proofs.rule.pick.Goals.{then-best-r, else-best-r}

-- one circuit more is looked at, and kept if its rank is higher
Best-higher : {s : Sender} {enable best picked circuit r : ℕ} → Best s enable best picked circuit → circuit < 4 → r ≡ rank s enable circuit → best < r
    → Best s enable r circuit (circuit + 1)
Best-higher {s} {enable} {best} {picked} {circuit} {r} b l e h =
    record { most = λ c m. at c (eqb c circuit) refl m; kept = λ p. (l, sym e) }
  where
    at : (c : ℕ) (t : Bool) → eqb c circuit ≡ t → c < circuit + 1 → rank s enable c ≤ r
    at c true d m = rw (eqb-true c circuit d, e) (omega arith)
    at c false d m =
        let other : c ≡ circuit → ⊥ = eqb-false c circuit d in
        omega (arith, b.most c (omega arith))

Best-other : {s : Sender} {enable best picked circuit r : ℕ} → Best s enable best picked circuit → circuit < 4 → r ≡ rank s enable circuit → r ≤ best
    → Best s enable best picked (circuit + 1)
Best-other {s} {enable} {best} {picked} {circuit} {r} b l e h =
    record { most = λ c m. at c (eqb c circuit) refl m; kept = b.kept }
  where
    at : (c : ℕ) (t : Bool) → eqb c circuit ≡ t → c < circuit + 1 → rank s enable c ≤ best
    at c true d m = rw (eqb-true c circuit d, ← e) h
    at c false d m =
        let other : c ≡ circuit → ⊥ = eqb-false c circuit d in
        b.most c (omega arith)

pub loop-circuit-init : goal.loop-circuit-init
loop-circuit-init c = record { most = λ d l. absurd (omega arith); kept = λ h. absurd (omega arith) }

pub rank-r-requires : goal.rank-r-requires
rank-r-requires c = record { sender_value = c.requires; circuit_bound = omega (arith, c.loop-circuit-test.true) }

pub loop-circuit-preserved : goal.loop-circuit-preserved
loop-circuit-preserved c =
    let told = c.rank-r.ensures in
    let below : c.loop-circuit.circuit < 4 = omega (arith, c.loop-circuit-test.true) in
    elim c.if-best-r.branch [
      | then-best-r w ↦ rw (w.best-is, w.picked-is) (Best-higher c.loop-circuit.invariant below told w.if-best-r.true)
      | else-best-r w ↦ rw (w.best-is, w.picked-is) (Best-other c.loop-circuit.invariant below told w.if-best-r.false)
    ]

pub returns-then-best-eq0 : goal.returns-then-best-eq0
returns-then-best-eq0 c =
    let a = c.args in
    let all : c.loop-circuit.circuit ≡ 4 = omega arith in
    sym (pick_nobody a.sender a.enable (λ d m. omega (arith, c.loop-circuit.invariant.most d (rw all m), c.if-best-eq0.true)))

pub returns-else-best-eq0 : goal.returns-else-best-eq0
returns-else-best-eq0 c =
    let a = c.args in
    let all : c.loop-circuit.circuit ≡ 4 = omega arith in
    let (small, e) = c.loop-circuit.invariant.kept (omega (arith, c.if-best-eq0.false)) in
    sym
    (pick_best a.sender a.enable true c.loop-circuit.picked c.requires small (rw e (omega (arith, c.if-best-eq0.false)))
    (λ d m. rw e (c.loop-circuit.invariant.most d (rw all m))))
