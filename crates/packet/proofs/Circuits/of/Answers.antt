-- `packet::Circuits::of` meets its contract. The loop's invariant: the first i circuits are stored. Assumes nothing.
use Prim.Native.Nat.{◌/◌, ◌<◌, ◌≤◌}
use mathlib.Core.Path.{◌≡◌}
use native.Mathlib.Omega.{arith}
use lib.ListN.{length}
use Rattle.packet.specs.Circuits.{circuits_of}
use Rattle.packet.proofs.CircuitLists.{length-circuits_of, Stored_next, Stored_end}
use Rattle.packet.proofs.Circuits.of.Goals as goal

pub none-no-requires : goal.none-no-requires
none-no-requires c = tt

pub loop-i-init : goal.loop-i-init
loop-i-init c = (omega arith, rw c.none-no.ensures)

pub loop-i-preserved : goal.loop-i-preserved
loop-i-preserved c =
    let bytes = c.args.bytes.now in
    let l = c.loop-i in
    let inside : l.i < length (circuits_of bytes) = omega (arith, length-circuits_of bytes) in
    rw c.circuit_at.ensures (Stored_next (circuits_of bytes) l.list l.i inside l.invariant)

pub overflow_cast-result : goal.overflow_cast-result
overflow_cast-result c = omega (arith, length-circuits_of c.args.bytes.now)

pub returns : goal.returns
returns c =
    let l = c.loop-i in
    let cs = circuits_of c.args.bytes.now in
    let few : length cs ≤ 4 = omega (arith, length-circuits_of c.args.bytes.now, c.requires) in
    let end : length cs ≤ l.i = omega (arith, length-circuits_of c.args.bytes.now) in
    let all : l.i ≡ length c.args.bytes.now / 3 = omega arith in
    rw all at (Stored_end cs l.list l.i few end l.invariant)
