-- `offering::slots::slots_in_range` meets its contract.
use Rattle.std.proofs.Common.{rules, Bool, List, ℕ, ◌≡◌, ◌≤◌, ◌<◌, length, take, arith, get_or}
use lib.Seq.{get_or-take}
use lib.ListN.{length-take}
use Rattle.offering.specs.declared.Slot.{Slot}
use Rattle.packet.specs.Stores.{longest_at}
use Rattle.offering.specs.Record.{no_slot, slot_in_range}
use Rattle.offering.proofs.Ranges.{slots_out, slots_in, slots_end}
use Rattle.offering.proofs.slots.slots_in_range.Goals as goal

-- the test of one of the first n slots is the definition's
slot_tested : (given b : Bool) (ts : List Slot) (n i most : ℕ) → most ≡ longest_at given i → i < n → b ≡ slot_in_range most (get_or (take n ts) i no_slot)
    → b ≡ slot_in_range (longest_at given i) (get_or ts i no_slot)
slot_tested given b ts n i most e h t = rw (e, get_or-take) at t

pub returns-then-not-slot_in_range : goal.returns-then-not-slot_in_range
unfolding no_slot
returns-then-not-slot_in_range c =
    let four : length c.args.slots ≡ 4 = search rules in
    let inside : c.loop-i.i < c.args.count = omega (arith, length-take c.args.count c.args.slots) in
    slots_out c.args.given c.args.slots c.args.count c.loop-i.i (omega arith) c.loop-i.invariant inside _
    (slot_tested _ _ _ _ _ _ c.longest_at.ensures inside c.slot_in_range.ensures) c.if-not-slot_in_range.true

pub loop-i-preserved : goal.loop-i-preserved
unfolding no_slot
loop-i-preserved c =
    let four : length c.args.slots ≡ 4 = search rules in
    let inside : c.loop-i.i < c.args.count = omega (arith, length-take c.args.count c.args.slots) in
    slots_in c.args.given c.args.slots c.args.count c.loop-i.i (omega arith) c.loop-i.invariant inside _
    (slot_tested _ _ _ _ _ _ c.longest_at.ensures inside c.slot_in_range.ensures) c.if-not-slot_in_range.false

pub returns : goal.returns
returns c =
    let four : length c.args.slots ≡ 4 = search rules in
    let all : c.args.count ≤ c.loop-i.i = omega (arith, length-take c.args.count c.args.slots) in
    slots_end c.args.given c.args.slots c.args.count c.loop-i.i (omega arith) c.loop-i.invariant all
