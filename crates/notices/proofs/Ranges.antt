-- The slots of a record are in range where each one is, with the length that its circuit number may have.
use Rattle.std.proofs.Common.{◌≡◌, ℕ, suc, Bool, List, [], ◌∷◌, refl, ap, add-one, ◌&&◌}
use Rattle.std.specs.List.{list_all, enumerate_from}
use Rattle.packet.specs.Stores.{longest_at}
use Rattle.notices.specs.declared.Slot.{Slot}
use Rattle.notices.specs.Slots.{slot_in_range, slots_in_range}

-- a slot with its circuit number
abbrev pub numbered_in_range : Bool → ℕ × Slot → Bool
numbered_in_range given p = slot_in_range (longest_at given p.0) p.1

pub list_all-slot_in_range : (given : Bool) (d : ℕ) (l : List Slot) → list_all (numbered_in_range given) (enumerate_from d l) ≡ slots_in_range given d l
unfolding slots_in_range
list_all-slot_in_range given d [] = refl
list_all-slot_in_range given d (t ∷ l) =
    ap (λ all. slot_in_range (longest_at given d) t && all) (rw (add-one d) (list_all-slot_in_range given (suc d) l))
