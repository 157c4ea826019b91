-- What is written is read back: packets, and the packets of writing calls.
use Prim.Native.Nat.{ℕ, ◌≤◌}
use mathlib.Core.Bool.{true, cond}
use mathlib.Core.List.{List, [], ◌∷◌, ◌++◌, map, flatten, append_assoc}
use mathlib.Core.Path.{◌≡◌, refl, sym, ap, ◌∙◌}
use native.Mathlib.Omega.{arith}
use lib.ListN.{length, take, drop, length-append}
use lib.Seq.{sets, take-append_seam}
use lib.Dec.{eqb}
use Rattle.bits.proofs.Lists.{sets_front}
use Rattle.bits.proofs.Tests.{and_left, and_right}
use Rattle.hdlc.specs.Frames.{with_fcs}
use Rattle.hdlc.proofs.WithFcs.{length-with_fcs, packet-with_fcs, fcs_right-with_fcs}
use Rattle.packet.specs.Answers.{answered}
use Rattle.serial.specs.Octets.{flag, escaped_bytes, line_frame, line_of, fits}
use Rattle.serial.specs.Writing.{worst_case, write_answer, output_after, WriteCall, bytes_written, sent, packets_sent}
use Rattle.serial.specs.Frames.{has_flag, pieces, between, unescaped_from, unescaped, passing, given, packets_in}
use Rattle.serial.specs.SerialLine.{all_fit}
use Rattle.serial.proofs.Escaping.{length-escaped_bytes}
use Rattle.serial.proofs.Writes.{write_cases}
use Rattle.serial.proofs.Stepping.{passing_short}
use Rattle.serial.proofs.Pieces.{packets_in_resync, packets_in_open, packets_in-frame}
use Rattle.serial.proofs.Unescaping.{has_flag-escaped_bytes, unescaped-escaped_bytes}

-- ---- flags in a row

flags_alone : packets_in (flag ∷ flag ∷ []) ≡ []
unfolding has_flag unescaped unescaped_from given
flags_alone = packets_in-frame [] refl ∙ rw (passing_short [] (omega arith))

pub two-flags : (ys : List ℕ) → packets_in (flag ∷ flag ∷ ys) ≡ packets_in (flag ∷ ys)
two-flags ys = packets_in_resync (flag ∷ []) ys ∙ rw flags_alone

-- ---- one frame

packets_in-line_frame : (p : List ℕ) → fits p ≡ true → packets_in (line_frame p) ≡ p ∷ []
unfolding line_frame given passing
packets_in-line_frame p f =
    packets_in-frame (escaped_bytes (with_fcs p)) (has_flag-escaped_bytes (with_fcs p))
    ∙ rw (unescaped-escaped_bytes (with_fcs p), fcs_right-with_fcs p, packet-with_fcs p, f)

-- and bytes behind it
packets_in-behind : (p ys : List ℕ) → packets_in (line_frame p ++ ys) ≡ packets_in (line_frame p) ++ packets_in (flag ∷ ys)
unfolding line_frame
packets_in-behind p ys =
    let body = escaped_bytes (with_fcs p) in
    ap (λ (l : List ℕ). packets_in (flag ∷ l)) (append_assoc body (flag ∷ []) ys) ∙ packets_in_resync (flag ∷ body) ys

-- ---- a line

no_bytes : packets_in [] ≡ []
unfolding packets_in between pieces flatten
no_bytes = refl

line_of-flag : (ps : List (List ℕ)) → packets_in (flag ∷ line_of ps) ≡ packets_in (line_of ps)
unfolding line_of line_frame flatten has_flag
line_of-flag [] = packets_in_open [] refl ∙ sym no_bytes
line_of-flag (p ∷ ps) = two-flags ((escaped_bytes (with_fcs p) ++ flag ∷ []) ++ flatten (map line_frame ps))

pub read_back_lem : (ps : List (List ℕ)) → all_fit ps ≡ true → packets_in (line_of ps) ≡ ps
unfolding line_of flatten all_fit
read_back_lem [] f = no_bytes
read_back_lem (p ∷ ps) f =
    packets_in-behind p (line_of ps)
    ∙ rw (packets_in-line_frame p (and_left (fits p) (all_fit ps) f), line_of-flag ps, read_back_lem ps (and_right (fits p) (all_fit ps) f))

-- ---- writing calls

-- no frame is longer than the worst case
pub length-line_frame : (p : List ℕ) → length (line_frame p) ≤ worst_case p
unfolding line_frame worst_case
length-line_frame p =
    rw length-append (omega (arith, length-with_fcs p, length-escaped_bytes (with_fcs p)))

-- the bytes that a call wrote
module _ (p output : List ℕ) where
  bytes-written : worst_case p ≤ length output → take (length (line_frame p)) (sets output 0 (line_frame p)) ≡ line_frame p
  bytes-written h =
      let room : length (line_frame p) ≤ length output = omega (arith, length-line_frame p) in
      rw (sets_front output (line_frame p) room) (take-append_seam (line_frame p) (drop (length (line_frame p)) output))

-- the line of calls is that of the packets not refused, and these fit
record Line_of (line : List ℕ) (ps : List (List ℕ)) : Type 0 where
  pub is : line ≡ line_of ps
  pub fit : all_fit ps ≡ true

sent-line : (cs : List WriteCall) → Line_of (sent cs) (packets_sent cs)
unfolding sent packets_sent write_answer output_after bytes_written answered line_of all_fit flatten
sent-line [] = record { is = refl; fit = refl }
sent-line (c ∷ cs) =
    let rest = sent-line cs in
    write_cases c.packet c.output
    (λ n. Line_of
    (bytes_written (answered n (length (line_frame c.packet))) (cond (eqb n 0) (sets c.output 0 (line_frame c.packet)) c.output) ++ sent cs)
    (cond (eqb n 0) (c.packet ∷ packets_sent cs) (packets_sent cs)))
    (λ f h. record { is = rw (bytes-written c.packet c.output h, rest.is); fit = rw (f, rest.fit) })
    rest
    rest

pub writes_read : (cs : List WriteCall) → packets_in (sent cs) ≡ packets_sent cs
writes_read cs = let s = sent-line cs in rw s.is (read_back_lem (packets_sent cs) s.fit)
