-- The record of a line and its 24 bytes: every record's bytes are unpacked to it; all bytes are some record's, and but for a yes that is not 1 the record's
-- bytes are these; 24 zeros are the fresh record.
use mathlib.Core.Path.{◌≡◌, refl}
use Prim.Native.Nat.{ℕ, zero, suc, ◌≤◌}
use native.Mathlib.Omega.{arith}
use mathlib.Core.Bool.{Bool, true, false}
use mathlib.Core.List.{List, ◌++◌}
use lib.ListN.{length, take, replicate}
use lib.Seq.{take_at, length-slice}
use Rattle.bits.specs.Bits.{bit_value}
use Rattle.serial.specs.declared.Line.{Line}
use Rattle.serial.specs.Machine.{fresh}
use Rattle.layout.specs.Layout.{byte_at}
use Rattle.layout.proofs.Parts.{read_slice}
use Rattle.serial_layout.specs.LineBytes.{line_length, line_bytes, yes, line_in}

yes_unpacks : (b : Bool) → yes (bit_value b) ≡ b
unfolding yes bit_value
yes_unpacks true = refl
yes_unpacks false = refl

yes_packs : (n : ℕ) → n ≤ 1 → bit_value (yes n) ≡ n
unfolding yes bit_value
yes_packs zero h = refl
yes_packs (suc zero) h = refl
yes_packs (suc (suc n)) h = absurd (omega arith)

pub line_unpacks : (l : Line) → length l.bytes ≡ 21 → (rest : List ℕ) → line_in (line_bytes l ++ rest) ≡ l
unfolding line_in line_bytes byte_at
line_unpacks l long rest = λ i.
    record {
      inside = yes_unpacks l.inside i;
      escape = yes_unpacks l.escape i;
      count = l.count;
      bytes = take_at l.bytes rest 21 long i;
    }

pub line_packs : (bytes : List ℕ) → line_length ≤ length bytes → byte_at bytes 0 ≤ 1 → byte_at bytes 1 ≤ 1 → line_bytes (line_in bytes) ≡ take line_length bytes
unfolding line_in line_bytes
line_packs bytes long inside escape =
    rw (yes_packs (byte_at bytes 0) inside, yes_packs (byte_at bytes 1) escape) (read_slice 3 bytes 0 24 (omega arith) long)

pub line_long : (bytes : List ℕ) → line_length ≤ length bytes → length (line_in bytes).bytes ≡ 21
unfolding line_in
line_long bytes long = length-slice 3 24 bytes long

pub length-line_bytes : (l : Line) → length l.bytes ≡ 21 → length (line_bytes l) ≡ line_length
unfolding line_bytes
length-line_bytes l long = rw long

pub line-fresh : line_bytes fresh ≡ replicate 24 0
unfolding line_bytes fresh bit_value
line-fresh = refl
