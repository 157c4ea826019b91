-- What a block begins with: a flag, and if one is wanted the system packet's frame and a flag. How long it is, and that it is written in
-- these pieces.
use mathlib.Core.Path.{◌≡◌, refl, sym, ◌∙◌}
use Prim.Native.Nat.{ℕ, ◌+◌, ◌*◌, ◌≤◌}
use native.Mathlib.Omega.{arith}
use mathlib.Core.Bool.{Bool, true, false}
use mathlib.Core.List.{List, ◌++◌, append-nil}
use lib.ListN.{length, length-append}
use Rattle.hdlc.specs.Frames.{flag, frame, added_in}
use Rattle.hdlc.specs.Leads.{led, Below}
use Rattle.hdlc.specs.Writing.{Room, Written, FrameWritten}
use Rattle.hdlc.specs.declared.zeros.Framed.{Framed}
use Rattle.hdlc.proofs.Writing.{Written_append}
use Rattle.hdlc.proofs.Ending.{length-flag}
use Rattle.hdlc.proofs.Leads.{led_three}
use Rattle.hdlc.proofs.FrameLength.{length-frame}
use Rattle.packet.specs.Packets.{system_packet}
use Rattle.sender.specs.Blocks.{frames_bits, added_in_frames, flagged_frames, System, system_packets}
use Rattle.sender.specs.BlockCalls.{Allowed, OpeningWritten}

-- a system packet is three bytes of a number, and the information
pub led-system : (enable code : ℕ) (information : List ℕ) {number control descriptor : ℕ} → Below 0xff control number →
    Below (192 + enable) descriptor control → Below (16 * code + length information) 0 descriptor → led number 3 information ≡ system_packet enable code information
unfolding system_packet led
led-system enable code information p q r = led_three p q r 0 information

-- a system packet's frame, with a flag, has at most 200 bits
length-system_packet : (enable code : ℕ) (information : List ℕ) → length (system_packet enable code information) ≡ length information + 3
unfolding system_packet
length-system_packet enable code information = omega arith

length-system : (enable code : ℕ) (information : List ℕ) → length information ≤ 15
    → length (frame (system_packet enable code information) ++ flag) ≤ 200
length-system enable code information h =
    rw length-append
    (omega (arith, length-frame (system_packet enable code information), length-system_packet enable code information, length-flag))

module _ (y : System) where
  -- what stands before our frames
  abbrev opening : List Bool
  opening = flagged_frames (system_packets y)

  -- the system packet's frame and a flag
  abbrev wanted_bits : List Bool
  wanted_bits = frame (system_packet y.enable y.code y.information) ++ flag

  opening_wanted : y.wanted ≡ true → opening ≡ flag ++ wanted_bits
  unfolding flagged_frames system_packets frames_bits
  opening_wanted e = rw (e, append-nil)

  opening_flag : y.wanted ≡ false → opening ≡ flag
  unfolding flagged_frames system_packets frames_bits
  opening_flag e = rw (e, append-nil)

  pub length_opening : (y.wanted ≡ true → Allowed y.enable y.code y.information) → length opening ≤ 208
  length_opening allowed = go y.wanted refl
    where
      go : (t : Bool) → y.wanted ≡ t → length opening ≤ 208
      go true e =
          rw (opening_wanted e, length-append)
          (omega (arith, length-flag, length-system y.enable y.code y.information (allowed e).information))
      go false e = rw (opening_flag e) (omega (arith, length-flag))

  -- behind the flag there is room for the system packet
  pub Room-system : {old mid : List ℕ} {at : ℕ} → 256 ≤ 8 * length old → Allowed y.enable y.code y.information
      → Written old 0 flag mid at → length mid ≡ length old → Room mid at wanted_bits
  Room-system {old} {mid} {at} long allowed w l =
      let e : at ≡ 8 = omega (arith, w.behind, length-flag) in
      let m : length wanted_bits ≤ 200 = length-system y.enable y.code y.information allowed.information in
      omega arith

  -- the zeros added in it
  added_wanted : y.wanted ≡ true → added_in_frames (system_packets y) ≡ added_in (system_packet y.enable y.code y.information)
  unfolding system_packets added_in_frames
  added_wanted e = rw e (omega arith)

  added_none : y.wanted ≡ false → added_in_frames (system_packets y) ≡ 0
  unfolding system_packets added_in_frames
  added_none e = rw e

  -- what is written is the opening
  pub OpeningWritten-flag : {old new : List ℕ} {at : ℕ} → y.wanted ≡ false → Written old 0 flag new at
      → OpeningWritten old (system_packets y) new (record { at = at; zeros = 0 })
  OpeningWritten-flag e w = record { written = rw (opening_flag e) w; zeros = sym (added_none e) }

  pub OpeningWritten-system : {old mid new : List ℕ} {at : ℕ} {r : Framed} → y.wanted ≡ true → Written old 0 flag mid at
      → FrameWritten mid at (system_packet y.enable y.code y.information) new r → OpeningWritten old (system_packets y) new r
  OpeningWritten-system e v w =
      record { written = rw (opening_wanted e) (Written_append flag wanted_bits v w.written); zeros = w.zeros ∙ sym (added_wanted e) }
