-- What writing one packet answers, and what it leaves in the output (document 02, ask 3).
use Rattle.std.specs.Prelude.{ℕ, ◌+◌, ◌*◌, cond, Result, Ok, Err, List, [], ◌∷◌, ◌++◌, length, take, leb, eqb}
use Rattle.std.proofs.lemmas.List.Edits.{sets}
use Rattle.packet.specs.declared.Refusal.{Refusal}
use Rattle.packet.specs.Answers.{answered}
use Rattle.serial.specs.Octets.{fits, line_frame}

-- "the worst case, 2 bytes for each packet and FCS byte plus 2 flags"
unfoldable pub worst_case : List ℕ → ℕ
worst_case p = 2 * (length p + 2) + 2

-- the number of the refusal, or 0: "16 output shorter than that; 17 a packet outside 2 to 19 bytes, looked at before 16"
unfoldable pub write_refusal : List ℕ → List ℕ → ℕ
write_refusal p output = cond (fits p) (cond (leb (worst_case p) (length output)) 0 16) 17

-- the answer: how many bytes are written, or the refusal
unfoldable pub write_answer : List ℕ → List ℕ → Result ℕ Refusal
write_answer p output = answered (write_refusal p output) (length (line_frame p))

-- the output then: "bytes behind those written keep their values"
unfoldable pub output_after : List ℕ → List ℕ → List ℕ
output_after p output = cond (eqb (write_refusal p output) 0) (sets output 0 (line_frame p)) output

-- ---- lists of writing calls

-- a call: the packet, and the output before it
pub record WriteCall : Type 0 where
  pub packet : List ℕ
  pub output : List ℕ

-- the bytes that an answer says are written
unfoldable pub bytes_written : Result ℕ Refusal → List ℕ → List ℕ
bytes_written (Ok n) output = take n output
bytes_written (Err k) output = []

-- what calls put on the line: each the bytes that it wrote
unfoldable pub sent : List WriteCall → List ℕ
sent [] = []
sent (c ∷ cs) = bytes_written (write_answer c.packet c.output) (output_after c.packet c.output) ++ sent cs

-- the packets of the calls that are not refused
unfoldable pub packets_sent : List WriteCall → List (List ℕ)
packets_sent [] = []
packets_sent (c ∷ cs) = cond (eqb (write_refusal c.packet c.output) 0) (c.packet ∷ packets_sent cs) (packets_sent cs)
