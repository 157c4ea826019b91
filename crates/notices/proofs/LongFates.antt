-- What becomes of a long message's packets, by computing.
use Rattle.std.proofs.Common.{refl}
use Rattle.packet.specs.Messages.{longest, longest_long}
use Rattle.packet.specs.Stores.{takes_long}
use Rattle.parsing.specs.Packets.{control_in, link, extended, index, lead, segment_in}
use Rattle.parsing.specs.Headers.{two_bytes, header_length, message_length, wrong_header, message_part}
use Rattle.notices.specs.Slots.{fresh_slot, open_message}
use Rattle.notices.specs.Fates.{is_copy, loss_of, still_open, first_fate, between_fate, last_fate, fate_of, open_length, slot_after}
use Rattle.notices.specs.LongFates.{first_at, long_slot, later_at, LongFates}

pub long_fates : LongFates
unfolding
    longest longest_long takes_long control_in link extended index lead segment_in
    two_bytes header_length message_length wrong_header message_part fresh_slot open_message
    is_copy loss_of still_open first_fate between_fate last_fate fate_of open_length slot_after first_at long_slot later_at
long_fates =
    record {
      begun = refl;
      at_one = refl;
      without_buffer = refl;
      cut = refl;
      fifteen = refl;
      opened = refl;
      below = refl;
      shortest = refl;
      most = refl;
      past = refl;
      held = refl;
      not_held = refl;
    }
