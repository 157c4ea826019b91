-- The enable bits in force in an accepted block are at most 15, so the record that it is made from is in range.
use Prim.Native.Nat.{ℕ, ◌≤◌}
use mathlib.Core.Bool.{Bool, true, false, cond}
use mathlib.Core.List.{List}
use Rattle.std.proofs.Common.{Option, None, Some}
use mathlib.Core.Path.{◌≡◌, refl}
use Rattle.packet.specs.Stores.{Stores}
use Rattle.offering.specs.declared.Sender.{Sender}
use Rattle.offering.specs.Record.{in_range}
use Rattle.offering.proofs.Ranges.{in_range_facts, facts_in_range}
use Rattle.sender.specs.Blocks.{System, enable_bits, in_force, ruled, block_refusal}
use Rattle.sender.specs.BlockCalls.{Allowed}
use Rattle.sender.proofs.BlockRefusals.{Accepted, accepted}

-- a record in range is in range under other bits, if these are at most 15
pub in_range-ruled : (given : Bool) (s : Sender) (new_enable : Option ℕ) → in_range given s ≡ true → in_force s.enable new_enable ≤ 15
    → in_range given (ruled s new_enable) ≡ true
unfolding ruled
in_range-ruled given s new_enable range few =
    let f = in_range_facts s range in
    facts_in_range (ruled s new_enable) (record { count = f.count; circuits = f.circuits; last = f.last; enable = few; slots = f.slots })

module _ (s : Sender) (store : Stores) (buffer : List ℕ) (n u : ℕ) (y : System) (e : block_refusal s store buffer n u y ≡ 0) where
  pub in_force_at_most_15 : in_force s.enable (enable_bits y) ≤ 15
  unfolding enable_bits in_force
  in_force_at_most_15 =
      let a : Accepted s store buffer n u y = accepted s store buffer n u y e in
      go y.wanted a.allowed (in_range_facts s a.record_in_range).enable
    where
      go : (w : Bool) → (w ≡ true → Allowed y.enable y.code y.information) → s.enable ≤ 15
          → in_force s.enable (cond w (Some y.enable) None) ≤ 15
      go true allowed few = (allowed refl).enable
      go false allowed few = few

  pub accepted-ruled_in_range : in_range store.given (ruled s (enable_bits y)) ≡ true
  accepted-ruled_in_range = in_range-ruled store.given s (enable_bits y) (accepted s store buffer n u y e).record_in_range in_force_at_most_15
