-- What a reading call tells, by the bodies of the bits alone (document 01, "Notices": "A read goes bit by bit and stops after the first notice, or at the
-- end with End").
use Rattle.std.specs.Prelude.{ℕ, ◌+◌, ◌≤◌, ◌<◌, true, false, List, [], ◌∷◌, ◌++◌, ◌≡◌, take, drop}
use Rattle.bits.specs.Bits.{bits_of}
use Rattle.hdlc.specs.Bodies.{bodies}
use Rattle.packet.specs.Circuits.{listing}
use Rattle.packet.specs.Stores.{Stores}
use Rattle.notices.specs.declared.Notice.{Notice}
use Rattle.receiver.specs.Record.{fresh}
use Rattle.receiver.specs.Reads.{ReadCall, fresh_receiver_end, bits_of_reads, Report, told_by_bodies, is_end}

-- what the bodies of all bits tell that the calls before read, and of the first j bits that are lent to this call from its `from` on
unfoldable pub told_up_to : List ℕ → Stores → List ReadCall → ReadCall → ℕ → List Report
told_up_to list l reads c j =
    told_by_bodies (fresh (listing list)) l (bodies (bits_of_reads (fresh_receiver_end list l) reads ++ take j (drop c.from (bits_of c.bytes))))

-- a call that tells the notice n, leaves the stores `after` and reads k bits stops at the first notice: fewer bits tell nothing more than none of them, all k
-- tell one thing more, this notice with these stores; or with End nothing more, and k bits are all up to `to`
pub record TellsFirst (list : List ℕ) (l : Stores) (reads : List ReadCall) (c : ReadCall) (n : Notice) (after : Stores) (k : ℕ) : Type 0 where
  pub within : c.from + k ≤ c.to
  pub fewer : (j : ℕ) → j < k → told_up_to list l reads c j ≡ told_up_to list l reads c 0
  pub more : is_end n ≡ false → told_up_to list l reads c k ≡ told_up_to list l reads c 0 ++ record { notice = n; store = after } ∷ []
  pub at_end : is_end n ≡ true → (told_up_to list l reads c k ≡ told_up_to list l reads c 0) × (c.from + k ≡ c.to)
