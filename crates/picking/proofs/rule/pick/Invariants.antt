-- `picking::rule::pick` meets its contract. The loop's invariant: of the circuits looked at so far, the one kept has the highest rank, if any has one.
use Rattle.std.proofs.Common.{◌≡◌, ℕ, ◌<◌, ◌≤◌}
use Rattle.offering.specs.declared.Sender.{Sender}
use Rattle.picking.specs.Picked.{rank}
use Rattle.picking.proofs.rule.pick.Given as goal

pub record Best (s : Sender) (enable best picked circuit : ℕ) : Type 0 where
  pub most : (c : ℕ) → c < circuit → rank s enable c ≤ best
  pub kept : 0 < best → (picked < 4) × (rank s enable picked ≡ best)

abbrev pub invariant-loop-circuit : goal.invariant-loop-circuit
invariant-loop-circuit l = Best l.sender l.enable l.best l.picked l.circuit
