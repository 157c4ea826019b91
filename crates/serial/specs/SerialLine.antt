-- What is promised of the serial line (document 02, ask 3): of reading what was written, of reading any bytes, of a reader whose line is cut anywhere, and
-- of the worst case. Nothing is assumed of the bytes of a line.
use Rattle.std.specs.Prelude.{ℕ, Some, zero, suc, ◌≤◌, ◌<◌, Bool, true, false, cond, ◌&&◌, ◌⊎◌, ◌≡◌, length, take, drop, replicate, leb}
use mathlib.Core.List.{List, [], ◌∷◌, ◌++◌, flatten}
use Rattle.hdlc.specs.Bodies.{fcs_right, packet}
use Rattle.serial.specs.declared.Line.{Line}
use Rattle.serial.specs.Octets.{flag, escape, escaped_bytes, line_frame, line_of, fits}
use Rattle.serial.specs.Writing.{worst_case, WriteCall, sent, packets_sent}
use Rattle.serial.specs.Frames.{has_flag, unescaped, packets_in}
use Rattle.serial.specs.Machine.{fresh, reading, packet_given, packets_read, bytes_read, line_after}

-- each is a packet of 2 to 19 bytes
unfoldable pub all_fit : List (List ℕ) → Bool
all_fit [] = true
all_fit (p ∷ ps) = fits p && all_fit ps

-- ---- a caller's loop

-- the calls over some bytes, at most n of them: what a call did not read is lent to the next
unfoldable pub calls_for : ℕ → Line → List ℕ → List (List ℕ)
calls_for zero l bs = []
calls_for (suc n) l bs = let r = reading l bs in bs ∷ calls_for n r.line (drop r.read bs)

-- the calls over a line that comes in chunks
unfoldable pub calls_over : Line → List (List ℕ) → List (List ℕ)
calls_over l [] = []
calls_over l (bs ∷ chunks) = let calls = calls_for (length bs) l bs in calls ++ calls_over (line_after l calls) chunks

-- ---- a record that no calls need have made

-- a line that a reader in this record has read, as far as that matters: nothing, or a flag and bytes behind it, of which 22 stand for any number above 21
unfoldable pub stands_for : Line → List ℕ
stands_for l =
    cond l.inside
    (flag ∷ escaped_bytes (cond (leb l.count 21) (take l.count l.bytes) (replicate 22 0)) ++ cond l.escape (escape ∷ []) [])
    []

-- ---- the worst case

-- a packet of 19 bytes that are all escaped, and so are those of its FCS, 7E7E hex
unfoldable pub worst_packet : List ℕ
worst_packet =
    0x7d ∷ 0x7d ∷ 0x7d ∷ 0x7d ∷ 0x7d ∷ 0x7d ∷ 0x7e ∷ 0x7d ∷ 0x7d ∷ 0x7e ∷ 0x7d ∷ 0x7d ∷ 0x7e ∷ 0x7e ∷ 0x7e ∷ 0x7d ∷ 0x7e ∷ 0x7e ∷ 0x7d ∷ []

pub record SerialLine : Type 0 where
  -- "For every list of packets, reading the written line gives that list"
  pub read_back : (ps : List (List ℕ)) → all_fit ps ≡ true → packets_in (line_of ps) ≡ ps
  -- the same over lists of writing calls, where a refused one puts nothing on the line
  pub writes : (cs : List WriteCall) → packets_in (sent cs) ≡ packets_sent cs
  -- "Bytes before the first flag are skipped"
  pub skipped : (xs ys : List ℕ) → has_flag xs ≡ false → packets_in (xs ++ ys) ≡ packets_in ys
  -- "after any bytes, what follows the next 7E, a flag even behind an escape, is read as it would be behind a first flag": that flag at most ends a frame
  -- begun before it
  pub resync : (xs ys : List ℕ) → packets_in (xs ++ flag ∷ ys) ≡ packets_in (xs ++ flag ∷ []) ++ packets_in (flag ∷ ys)
  -- "Two flags in a row hold no frame"
  pub two_flags : (ys : List ℕ) → packets_in (flag ∷ flag ∷ ys) ≡ packets_in (flag ∷ ys)
  -- "A reader drops a frame whose FCS is wrong, whose packet is outside 2 to 19 bytes, or whose escape is followed by a flag", and no other: of the bytes xs
  -- between two flags
  pub wrong_fcs : (xs bytes : List ℕ) → has_flag xs ≡ false → unescaped xs ≡ Some bytes → fcs_right bytes ≡ false → packets_in (flag ∷ xs ++ flag ∷ []) ≡ []
  pub outside : (xs bytes : List ℕ) → has_flag xs ≡ false → unescaped xs ≡ Some bytes → fits (packet bytes) ≡ false → packets_in (flag ∷ xs ++ flag ∷ []) ≡ []
  pub escape_then_flag : (xs bytes : List ℕ) → has_flag xs ≡ false → unescaped xs ≡ Some bytes → packets_in (flag ∷ xs ++ escape ∷ flag ∷ []) ≡ []
  pub no_other : (xs bytes : List ℕ) → has_flag xs ≡ false → unescaped xs ≡ Some bytes → fcs_right bytes ≡ true → fits (packet bytes) ≡ true
      → packets_in (flag ∷ xs ++ flag ∷ []) ≡ packet bytes ∷ []
  -- all bytes are unescaped, or are such bytes and an escape behind them
  pub unescapes : (xs : List ℕ) → ((bytes : List ℕ) × (unescaped xs ≡ Some bytes))
      ⊎ ((ys bytes : List ℕ) × (xs ≡ ys ++ escape ∷ []) × (unescaped ys ≡ Some bytes))
  -- the reader finds what is declared, however the line is cut
  pub cuts : (chunks : List (List ℕ)) → packets_read fresh (calls_over fresh chunks) ≡ packets_in (flatten chunks)
  -- and whatever its calls are lent: in the bytes that they read
  pub reads : (calls : List (List ℕ)) → packets_read fresh calls ≡ packets_in (bytes_read fresh calls)
  -- a call without a packet reads every byte, and one with a packet stops right behind the flag that gives it
  pub all_read : (l : Line) (bs : List ℕ) → packet_given (reading l bs) ≡ [] → (reading l bs).read ≡ length bs
  pub first_read : (l : Line) (bs : List ℕ) (n : ℕ) → n < (reading l bs).read → packet_given (reading l (take n bs)) ≡ []
  -- what is written, cut and read is the packets that were not refused
  pub across : (cs : List WriteCall) (chunks : List (List ℕ)) → flatten chunks ≡ sent cs → packets_read fresh (calls_over fresh chunks) ≡ packets_sent cs
  -- a reader in any record goes on as behind the line that it stands for
  pub any_record : (l : Line) (calls : List (List ℕ)) → length l.bytes ≡ 21 → packets_read l calls ≡ packets_in (stands_for l ++ bytes_read l calls)
  -- "the worst case, 2 bytes for each packet and FCS byte plus 2 flags": no frame is longer, and one is as long
  pub longest : (p : List ℕ) → length (line_frame p) ≤ worst_case p
  pub worst_fits : fits worst_packet ≡ true
  pub worst_met : length (line_frame worst_packet) ≡ worst_case worst_packet
