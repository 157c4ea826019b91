-- `framing_layout::framing_in` meets its contract, field by field.
use mathlib.Core.List.{List}
use mathlib.Core.Path.{◌≡◌, refl, ◌∙◌}
use Prim.Native.Nat.{ℕ, ◌+◌, ◌-◌, ◌≤◌}
use native.Mathlib.Omega.{arith}
use lib.ListN.{length, take, drop, replicate}
use lib.Seq.{sets, slice}
use Rattle.layout.specs.Layout.{byte_at}
use Rattle.layout.proofs.Copies.{copied_part}
use Rattle.framing_layout.specs.FramingBytes.{framing_in}
use Rattle.framing_layout.proofs.framing_in.Goals as goal

-- the 21 bytes behind the first three
copied : (l : List ℕ) (at : ℕ) → at + 24 ≤ length l → sets (replicate 21 0) 0 (take (at + 24 - (at + 3)) (drop (at + 3) l)) ≡ slice (at + 3) (at + 24) l
copied l at h =
    let part : at + 24 - (at + 3) ≡ 21 = omega arith in
    let end : at + 3 + 21 ≡ at + 24 = omega arith in
    rw part (copied_part l (replicate 21 0) (at + 3) 21 (omega arith) refl ∙ rw end)

pub returns : goal.returns
unfolding framing_in byte_at
returns c =
    let a = c.args in
    rw (c.copy_in.ensures, copied a.bytes.now a.at c.requires)
