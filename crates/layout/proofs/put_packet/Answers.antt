-- `layout::put_packet` meets its contract.
use mathlib.Core.Path.{sym}
use Prim.Native.Nat.{◌≤◌}
use lib.ListN.{length}
use native.Mathlib.Omega.{arith}
use lib.Seq.{length-take-le}
use borrow.Author.Rules.{rules}
use Rattle.layout.proofs.put_packet.Goals as goal

pub slice_bounds-copy_in-end : goal.slice_bounds-copy_in-end
slice_bounds-copy_in-end c =
    let fits : c.args.n ≤ length c.args.frame = search rules in
    sym (length-take-le _ _ fits)

pub copy_in-requires : goal.copy_in-requires
copy_in-requires c =
    let fits : c.args.n ≤ length c.args.frame = search rules in
    rw (length-take-le _ _ fits) (omega arith)
