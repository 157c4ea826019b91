-- `notices::stores::CircuitSlot::write_region` meets its contract: the region is lent on as a part of the store.
use Rattle.std.proofs.Common.{◌*◌, ◌≤◌, length, arith}
use Rattle.bits.proofs.Lists.{sets_part_at}
use Rattle.packet.specs.Stores.{region}
use Rattle.notices.specs.Stores.{system_place, store_length}
use Rattle.notices.proofs.stores.CircuitSlot.write_region.Goals as goal

pub returns : goal.returns
unfolding store_length system_place region
returns c =
    let a = c.args in
    let inside : region * a.self.circuit ≤ length a.store.now = omega (arith, c.requires.1, a.self.listed) in
    let written = sets_part_at (region * a.self.circuit) c.place_of-at.result a.store.now c.part.result.now c.copy_at.new.dst inside c.copy_at.ensures in
    cc (written, c.place_of-at.ensures, c.part.ensures.0, c.packet.ensures, c.packet-2.ensures)
