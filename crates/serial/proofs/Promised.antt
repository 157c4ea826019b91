-- The serial line is as document 02 says.
use Prim.Native.Nat.{ℕ}
use mathlib.Core.Bool.{true, false, cond, xor, and-false}
use mathlib.Core.List.{List, [], ◌∷◌, ◌++◌, flatten, append_assoc}
use Rattle.std.specs.Prelude.{Some}
use mathlib.Core.Path.{◌≡◌, refl, sym, ap, ◌∙◌}
use lib.ListN.{length}
use Rattle.bits.specs.Bits.{odd, low_bits, byte_bits, bits_of}
use Rattle.fcs.specs.Fcs.{poly, divided, fcs_bit, fcs_run, preset, complement, fcs_of, low_first}
use Rattle.hdlc.specs.Frames.{with_fcs}
use Rattle.hdlc.specs.Bodies.{fcs_right, packet}
use Rattle.serial.specs.Octets.{flag, escape, is_flag, is_escape, escaped, escaped_bytes, fits, line_frame}
use Rattle.serial.specs.Writing.{worst_case, WriteCall, sent, packets_sent}
use Rattle.serial.specs.Frames.{has_flag, unescaped, passing, given, packets_in}
use Rattle.serial.specs.Machine.{fresh, packets_read}
use Rattle.serial.specs.SerialLine.{SerialLine, calls_over, worst_packet}
use Rattle.serial.proofs.Pieces.{packets_in_resync, packets_in_skipped, packets_in-frame}
use Rattle.serial.proofs.Unescaping.{has_flag_append, unescapes, unescaped-escape}
use Rattle.serial.proofs.ReadBack.{two-flags, read_back_lem, writes_read, length-line_frame}
use Rattle.serial.proofs.ReadCalls.{all_read_lem, first_read_lem, any-record, reads_declared, cuts_declared}

-- ---- frames that are dropped, and those that are not

module _ (xs bytes : List ℕ) (none : has_flag xs ≡ false) (is : unescaped xs ≡ Some bytes) where
  frame-given : packets_in (flag ∷ xs ++ flag ∷ []) ≡ cond (passing bytes) (packet bytes ∷ []) []
  unfolding given
  frame-given = packets_in-frame xs none ∙ rw is

  wrong-fcs : fcs_right bytes ≡ false → packets_in (flag ∷ xs ++ flag ∷ []) ≡ []
  unfolding passing
  wrong-fcs e = frame-given ∙ rw e

  outside-length : fits (packet bytes) ≡ false → packets_in (flag ∷ xs ++ flag ∷ []) ≡ []
  unfolding passing
  outside-length e = frame-given ∙ rw (e, and-false (fcs_right bytes))

  no_other_lem : fcs_right bytes ≡ true → fits (packet bytes) ≡ true → packets_in (flag ∷ xs ++ flag ∷ []) ≡ packet bytes ∷ []
  unfolding passing
  no_other_lem e f = frame-given ∙ rw (e, f)

  escape-then-flag : packets_in (flag ∷ xs ++ escape ∷ flag ∷ []) ≡ []
  unfolding has_flag is_flag given
  escape-then-flag =
      let without : has_flag (xs ++ escape ∷ []) ≡ false = has_flag_append xs (escape ∷ []) ∙ rw none in
      ap (λ (l : List ℕ). packets_in (flag ∷ l)) (sym (append_assoc xs (escape ∷ []) (flag ∷ [])))
      ∙ packets_in-frame (xs ++ escape ∷ []) without
      ∙ rw (unescaped-escape xs bytes is)

-- ---- written and read by calls

across_calls : (cs : List WriteCall) (chunks : List (List ℕ)) → flatten chunks ≡ sent cs → packets_read fresh (calls_over fresh chunks) ≡ packets_sent cs
across_calls cs chunks e = cuts_declared chunks ∙ ap packets_in e ∙ writes_read cs

-- ---- the worst case is met

worst-fits : fits worst_packet ≡ true
unfolding fits worst_packet
worst-fits = refl

worst-met : length (line_frame worst_packet) ≡ worst_case worst_packet
unfolding worst_packet worst_case line_frame escaped_bytes escaped is_flag is_escape flatten with_fcs fcs_of low_first complement fcs_run fcs_bit divided poly preset bits_of byte_bits low_bits odd xor
worst-met = refl

pub serial-line : SerialLine
unfolding unescaped
serial-line =
    record {
      read_back = read_back_lem;
      writes = writes_read;
      skipped = packets_in_skipped;
      resync = packets_in_resync;
      two_flags = two-flags;
      wrong_fcs = wrong-fcs;
      outside = outside-length;
      escape_then_flag = escape-then-flag;
      no_other = no_other_lem;
      unescapes = unescapes;
      cuts = cuts_declared;
      reads = reads_declared;
      all_read = all_read_lem;
      first_read = first_read_lem;
      across = across_calls;
      any_record = any-record;
      longest = length-line_frame;
      worst_fits = worst-fits;
      worst_met = worst-met;
    }
