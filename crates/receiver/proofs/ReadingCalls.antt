-- Every bit list can be taken: whatever the stores hold at first, if they are long enough some list of reading calls reads exactly these bits.
use Prim.Native.Nat.{ℕ, ◌≤◌}
use mathlib.Core.Bool.{Bool, true, false}
use mathlib.Core.List.{List, [], ◌∷◌}
use mathlib.Core.Path.{◌≡◌, refl, ap, ◌∙◌}
use native.Mathlib.Omega.{arith}
use lib.ListN.{length, take}
use borrow.Author.Tests.{le-ltb}
use Rattle.bits.specs.Bits.{byte_bits, low_bits, odd, bits_of, bit_value}
use Rattle.packet.specs.Stores.{Stores, long_short}
use Rattle.framing.proofs.Scanned.{scan-between}
use Rattle.framing.proofs.ScanInRange.{Array21, Array21-fresh}
use Rattle.notices.specs.Stores.{store_length}
use Rattle.notices.proofs.StoreLaws.{SameLengths}
use Rattle.receiver.specs.declared.Receiver.{Receiver}
use Rattle.receiver.specs.Record.{fresh, in_range}
use Rattle.receiver.specs.Reading.{read_scan, read_refusal, bits_read}
use Rattle.receiver.specs.Reads.{ReadCall, ReceiverEnd, fresh_receiver_end, after_read, bits_of_read, bits_of_reads}
use Rattle.receiver.proofs.InRange.{fresh_in_range, lengths_stores_after_read, read_array, after_read_in_range}

-- ---- a call that reads one bit

one_bit : Bool → ReadCall
one_bit b = record { bytes = bit_value b ∷ []; from = 0; to = 1 }

-- it is accepted
one_bit_accepted : (b : Bool) (r : Receiver) (l : Stores) → in_range l.given r ≡ true → store_length ≤ length l.store → long_short l ≡ false
    → read_refusal r l (bit_value b ∷ []) 0 1 ≡ 0
unfolding read_refusal
one_bit_accepted b r l k enough long = rw (k, le-ltb (length l.store) store_length enough, long)

-- its scan ends behind the bit
one_bit_at : (b : Bool) (r : Receiver) → (read_scan r (bit_value b ∷ []) 0 1).at ≡ 1
unfolding read_scan bits_of byte_bits low_bits
one_bit_at b r =
    let h = scan-between r.framing (bits_of (bit_value b ∷ [])) 0 1 (omega arith) (omega arith) in
    omega (arith, h.least, h.most)

one_bit_first : (b : Bool) → take 1 (bits_of (bit_value b ∷ [])) ≡ b ∷ []
unfolding bits_of byte_bits low_bits odd bit_value
one_bit_first true = refl
one_bit_first false = refl

one_bit_bits : (b : Bool) (e : ReceiverEnd) → in_range e.store.given e.receiver ≡ true → store_length ≤ length e.store.store
    → long_short e.store ≡ false → bits_of_read e (one_bit b) ≡ b ∷ []
unfolding bits_of_read bits_read one_bit
one_bit_bits b e k enough long = rw (one_bit_accepted b e.receiver e.store k enough long, one_bit_at b e.receiver) (one_bit_first b)

-- ---- any bits, one call for each

-- stores of the same lengths are as long enough
same_short : (l m : Stores) → SameLengths l m → long_short m ≡ long_short l
unfolding long_short
same_short l m same = rw (same.given, same.long)

reads_from : (bits : List Bool) (e : ReceiverEnd) → Array21 e.receiver.framing.bits → in_range e.store.given e.receiver ≡ true
    → store_length ≤ length e.store.store → long_short e.store ≡ false → (reads : List ReadCall) × (bits_of_reads e reads ≡ bits)
unfolding bits_of_reads after_read
reads_from [] e h k enough long = ([], refl)
reads_from (b ∷ bits) e h k enough long =
    let c : ReadCall = one_bit b in
    let same : SameLengths e.store (after_read e c).store = lengths_stores_after_read e.receiver e.store c.bytes c.from c.to in
    let later = reads_from bits (after_read e c) (read_array e.receiver e.store c.bytes c.from c.to h)
    (after_read_in_range e c h k) (rw same.store enough) (same_short e.store (after_read e c).store same ∙ long) in
    (c ∷ later.0, rw (one_bit_bits b e k enough long) (ap (λ (r : List Bool). b ∷ r) later.1))

pub reads_take : (bits : List Bool) (list : List ℕ) (l : Stores) → store_length ≤ length l.store → long_short l ≡ false
    → (reads : List ReadCall) × (bits_of_reads (fresh_receiver_end list l) reads ≡ bits)
unfolding fresh
reads_take bits list l enough long = reads_from bits (fresh_receiver_end list l) Array21-fresh (fresh_in_range l.given list) enough long
