-- Messages, their headers and segments (document 01, "Messages and packets"; 000, section 5.2.1; 002, section 4.2.1.b).
use Rattle.std.specs.Prelude.{ℕ, zero, suc, ◌+◌, ◌-◌, ◌*◌, ◌/◌, ◌%◌, ◌<◌, min, cond, List, [], ◌∷◌, ◌++◌, ◌≡◌, length, take, drop, leb, eqb}
use Rattle.packet.specs.declared.Part.{Part}

-- "Messages of 0 to 4,094 bytes"
unfoldable pub longest : ℕ
longest = 4094

-- "a message of 4,095 to 65,535 bytes" (document 02, ask 7), which is called a long one here, and "Its two-byte header holds 4,095"
unfoldable pub longest_long : ℕ
longest_long = 65535

abbrev pub long_header : ℕ
long_header = 4095

-- "length up to 15 takes one byte, 16 to 4,094 two bytes": the length in A3 to A0, or with A4 set its upper bits in A3 to A0 and
-- its lower eight in the second byte. "Reserved header bits are sent as 0": A7 to A5. Of a long message "Its two-byte header holds 4,095" (document 02, ask 7)
unfoldable pub header : ℕ → List ℕ
header n = cond (leb n 15) (n ∷ []) ((16 + min n long_header / 256) ∷ (min n long_header % 256) ∷ [])

-- a message with its header before it
unfoldable pub headed : List ℕ → List ℕ
headed message = header (length message) ++ message

-- "Header and message are cut into segments of 16 bytes, the last 1 to 16": segment k, from 0
unfoldable pub segment : List ℕ → ℕ → List ℕ
segment message k = take 16 (drop (16 * k) (headed message))

-- the first k segments, joined
unfoldable pub segments_up_to : List ℕ → ℕ → List ℕ
segments_up_to message zero = []
segments_up_to message (suc k) = segments_up_to message k ++ segment message k

-- the byte of a message of n bytes with which its part in segment k begins: byte 16 * k of header and message
unfoldable pub part_from : ℕ → ℕ → ℕ
part_from n k = 16 * k - length (header n)

-- the part of a message of n bytes in segment k: up to the next segment or the message's end
unfoldable pub part_of : ℕ → ℕ → Part
part_of n k = record { from = part_from n k; len = min (part_from n (k + 1)) n - part_from n k }

-- the number of packets of a message of n bytes
unfoldable pub packets : ℕ → ℕ
packets n = (length (header n) + n + 15) / 16

-- the link number A7 A6 of packet k of n: "10 first or only, 01 last of several, 00 between"
unfoldable pub link_of : ℕ → ℕ → ℕ
link_of k n = cond (eqb k 0) 2 (cond (eqb (k + 1) n) 1 0)

-- what the length of a long message gives, by value
pub record LongByValue : Type 0 where
  pub header : (n : ℕ) → longest < n → header n ≡ 0x1f ∷ 0xff ∷ []
  pub shortest : packets 4095 ≡ 257
  pub last_full : packets 4110 ≡ 257
  pub last_one : packets 4111 ≡ 258
  pub almost : packets 65534 ≡ 4096
  pub most : packets longest_long ≡ 4097
