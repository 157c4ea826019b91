-- Every case of the table, by computing both sides.
use mathlib.Core.Bool.{xor}
use mathlib.Core.Path.{refl}
use Rattle.bits.specs.Bits.{odd, low_bits, byte_bits, bits_of}
use Rattle.fcs.specs.Fcs.{poly, divided, fcs_bit, fcs_run, preset, complement, fcs_of, low_first}
use Rattle.hdlc.specs.Stuffing.{stuff_from, stuff}
use Rattle.hdlc.specs.Frames.{flag}
use Rattle.hdlc.specs.Bodies.{starts_with, flags_from, flags, bodies_after, between_flags, bodies}
use Rattle.packet.specs.Messages.{header, packets, link_of}
use Rattle.packet.specs.Packets.{control}
use Rattle.framing.specs.Machine.{empty, fresh, one_read, zero_read, step, run, closes}
use Rattle.framing.specs.Closings.{closings}
use Rattle.parsing.specs.Packets.{index}
use Rattle.parsing.specs.Packets.{control_in}
use Rattle.notices.specs.Fates.{loss_of, is_copy, fate_of}
use Rattle.joints.specs.Joints.{Joints}

pub joints : Joints
unfolding odd low_bits byte_bits bits_of stuff_from stuff
    flag starts_with flags_from flags bodies_after between_flags bodies
    empty fresh one_read zero_read step run closes closings
    xor poly divided fcs_bit fcs_run preset complement fcs_of low_first
    header packets link_of control
    index control_in loss_of is_copy fate_of
joints =
    record {
      stuff_FF = refl;
      stuff_F8 = refl;
      stuff_7E = refl;
      stuff_21_FF = refl;
      two-flags = refl;
      two_flags_no_body = refl;
      two_flags-close-none = refl;
      two_flags-read = refl;
      fresh_no_flag = refl;
      fresh-closes-none = refl;
      fresh-read = refl;
      fcs-digits = refl;
      fcs-digits-sent = refl;
      last_6_now_0 = refl;
      last_3_now_2 = refl;
      last_3_now_3 = λ taken. refl;
      packets_0 = refl;
      packets_15 = refl;
      packets_16 = refl;
      packets_4094 = refl;
      control_first = refl;
    }
