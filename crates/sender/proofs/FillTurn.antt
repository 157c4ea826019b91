-- One turn of filling a block: a frame written and its circuit served, and what is left to fill from there is what was left before, without it.
use mathlib.Core.Path.{◌≡◌, refl, sym, ◌∙◌}
use Prim.Native.Nat.{ℕ, ◌+◌, ◌*◌, ◌^◌, ◌≤◌, ◌<◌}
use native.Mathlib.Nat.{add-zero, zero-add}
use native.Mathlib.Omega.{arith}
use mathlib.Core.Bool.{true, false}
use mathlib.Core.List.{List, ◌++◌}
use Rattle.std.proofs.Common.{None, Some}
use lib.ListN.{length, length-append}
use lib.Dec.{leb}
use borrow.Author.Tests.{leb-true, leb-false, le-leb, lt-leb}
use Rattle.hdlc.specs.Frames.{flag, frame}
use Rattle.hdlc.specs.Writing.{Room, FrameWritten}
use Rattle.hdlc.specs.declared.zeros.Framed.{Framed}
use Rattle.hdlc.proofs.AddedZeros.{length_flagged_added}
use Rattle.hdlc.proofs.Ending.{length-flag}
use Rattle.hdlc.proofs.Writing.{Written_append}
use Rattle.packet.specs.Stores.{Stores}
use Rattle.offering.specs.declared.Sender.{Sender}
use Rattle.offering.specs.Record.{slot_at, pending, in_range, LongEnough}
use Rattle.picking.specs.Picking.{pick, served}
use Rattle.picking.proofs.PickingLaws.{served_in_range}
use Rattle.writing.specs.NextFrame.{next_packet, next_frame}
use Rattle.writing.proofs.FrameLength.{length-next_frame}
use Rattle.sender.specs.declared.Block.{Block}
use Rattle.sender.specs.Blocks.{frames_bits, added_in_frames, PlacedFrame, placed_packets, Filled, full, and_then, placing, fill_up}
use Rattle.sender.specs.BlockCalls.{FramesWritten}
use Rattle.sender.proofs.Filling.{fill_up-step}

module _ (s : Sender) (store : Stores) (at enable u : ℕ) (e : in_range store.given s ≡ true) where
  -- filling ends where none is picked, and where the frame that is would pass u
  fill_up-none : pick s enable ≡ None → fill_up s store at enable u ≡ full s
  unfolding placing
  fill_up-none p = fill_up-step s store at enable u e ∙ rw p

  module _ (c : ℕ) (p : pick s enable ≡ Some c) where
    fill_up-past : u < at + length (next_frame s store c) → fill_up s store at enable u ≡ full s
    unfolding placing
    fill_up-past h = fill_up-step s store at enable u e ∙ rw (p, lt-leb (at + length (next_frame s store c)) u h)

    -- and otherwise goes on behind it
    fill_up_more : at + length (next_frame s store c) ≤ u
        → fill_up s store at enable u ≡ and_then (record { number = c; packet = next_packet s store c })
        (fill_up (served s c) store (at + length (next_frame s store c)) enable u)
    unfolding placing
    fill_up_more h = fill_up-step s store at enable u e ∙ rw (p, le-leb (at + length (next_frame s store c)) u h)

-- the bit behind a circuit's next frame
pub next_frame_end : (s : Sender) (store : Stores) (c : ℕ) {old new : List ℕ} {at : ℕ} {r : Framed} → FrameWritten old at (next_packet s store c) new r
    → r.at ≡ at + length (next_frame s store c)
unfolding next_frame
next_frame_end s store c w = w.written.behind

-- the frame of a circuit at which a copy waits: where 209 bits are left it fits, it has room in 27 bytes, and its last bit's number is small
module _ (s : Sender) (store : Stores) (c : ℕ) (range : in_range store.given s ≡ true) (listed : c < s.circuits.count) (long : LongEnough store)
    (waits : pending (slot_at s c) ≡ true) where
  pub fits-longest : (at u : ℕ) → at + 209 ≤ u → true ≡ leb (at + length (next_frame s store c)) u
  fits-longest at u h = sym (le-leb (at + length (next_frame s store c)) u (omega (arith, length-next_frame s store c range listed long waits)))

  pub next_frame_room : (bytes : List ℕ) → length bytes ≡ 27 → Room bytes 0 (next_frame s store c)
  next_frame_room bytes h = omega (arith, length-next_frame s store c range listed long waits)

  pub next_frame_small : (at n : ℕ) → at ≤ 27000 → n ≡ 0 + length (next_frame s store c) → at + n < 2 ^ 64
  next_frame_small at n h e = omega (arith, length-next_frame s store c range listed long waits)

next_frame_some : (s : Sender) (store : Stores) (c : ℕ) → 1 ≤ length (next_frame s store c)
unfolding next_frame
next_frame_some s store c = rw length-append (omega (arith, length-flag))

-- ---- what a turn keeps

-- what is written, with a frame behind it
abbrev with_next : Framed → Framed → Framed
with_next front next = record { at = next.at; zeros = front.zeros + next.zeros }

-- what is told, with n frames placed before
abbrev with_more : ℕ → Block → Block
with_more n r = record { placed = n + r.placed; used = r.used; zeros = r.zeros }

-- a frame written before what is filled behind it
FramesWritten-and_then : {old mid new : List ℕ} {front next : Framed} (p : PlacedFrame) (f : Filled) (after : Sender)
    (r : Block) → FrameWritten old front.at p.packet mid next → FramesWritten mid (with_next front next) f new after r
    → FramesWritten old front (and_then p f) new after (with_more 1 r)
unfolding and_then placed_packets frames_bits added_in_frames
FramesWritten-and_then p f after r w g =
    record {
      sender = g.sender;
      written = Written_append (frame p.packet ++ flag) (frames_bits (placed_packets f.frames)) w.written g.written;
      placed = omega (arith, g.placed);
      zeros = omega (arith, g.zeros, w.zeros);
    }

-- to fill what is left from here, with the frames placed and the zeros added so far, is to fill all from the start
pub record ToFill (old : List ℕ) (s₀ : Sender) (store : Stores) (front : Framed) (enable u : ℕ) (buffer : List ℕ) (s : Sender) (at placed zeros : ℕ)
    : Type 0 where
  pub long : length buffer ≡ length old
  pub range : in_range store.given s ≡ true
  pub within : at ≤ u
  pub few : placed ≤ at
  pub fewer : zeros ≤ at
  pub rest : (new : List ℕ) (after : Sender) (r : Block)
      → FramesWritten buffer (record { at = at; zeros = zeros }) (fill_up s store at enable u) new after r
      → FramesWritten old front (fill_up s₀ store front.at enable u) new after (with_more placed r)

pub ToFill_start : (old : List ℕ) (s : Sender) (store : Stores) (front : Framed) (enable u : ℕ) → in_range store.given s ≡ true
    → front.zeros ≤ front.at → front.at ≤ u → ToFill old s store front enable u old s front.at 0 front.zeros
ToFill_start old s store front enable u range fewer within =
    record {
      long = refl;
      range = range;
      within = within;
      few = omega arith;
      fewer = fewer;
      rest = λ new after r f. record { sender = f.sender; written = f.written; placed = zero-add r.placed ∙ f.placed; zeros = f.zeros };
    }

module _ {old : List ℕ} {s₀ : Sender} {store : Stores} {front : Framed} {enable u : ℕ} {buffer : List ℕ} {s : Sender} {at placed zeros : ℕ}
    (g : ToFill old s₀ store front enable u buffer s at placed zeros) where
  -- all is filled
  abbrev Done : Type 0
  Done = FramesWritten old front (fill_up s₀ store front.at enable u) buffer s (record { placed = placed; used = at; zeros = zeros })

  ends : fill_up s store at enable u ≡ full s → Done
  unfolding full placed_packets frames_bits added_in_frames
  ends e =
      let nothing : Block = record { placed = 0; used = at; zeros = zeros } in
      let here : FramesWritten buffer (record { at = at; zeros = zeros }) (fill_up s store at enable u) buffer s nothing =
      rw e
      (record {
        sender = refl;
        written = record { buffer = refl; behind = sym (add-zero at) };
        placed = refl;
        zeros = sym (add-zero zeros);
      }) in
      rw add-zero at (g.rest buffer s nothing here)

  pub ToFill-none : pick s enable ≡ None → Done
  ToFill-none p = ends (fill_up-none s store at enable u g.range p)

  module _ {c : ℕ} (p : pick s enable ≡ Some c) where
    pub ToFill-past : leb (at + length (next_frame s store c)) u ≡ false → Done
    ToFill-past h = ends (fill_up-past s store at enable u g.range c p (leb-false _ _ h))

    module _ (h : leb (at + length (next_frame s store c)) u ≡ true) where
      fits : at + length (next_frame s store c) ≤ u
      fits = leb-true (at + length (next_frame s store c)) u h

      pub ToFill_room : u ≤ 8 * length old → u ≤ 27000 → Room buffer at (next_frame s store c)
      ToFill_room within small = omega (arith, fits)

      module _ {more : List ℕ} {next : Framed} (w : FrameWritten buffer at (next_packet s store c) more next) where
        end : next.at ≡ at + length (next_frame s store c)
        end = next_frame_end s store c w

        -- the zeros added in the frame are some of its bits
        pub zeros_within : zeros + next.zeros ≤ next.at
        zeros_within = omega (arith, g.fewer, w.zeros, w.written.behind, length_flagged_added (next_packet s store c))

        pub ToFill-step : length more ≡ length buffer
            → ToFill old s₀ store front enable u more (served s c) next.at (placed + 1) (zeros + next.zeros)
        ToFill-step l =
            record {
              long = l ∙ g.long;
              range = served_in_range _ s enable c g.range p;
              within = omega (arith, fits, end);
              few = omega (arith, next_frame_some s store c, end, g.few);
              fewer = zeros_within;
              rest = again;
            }
          where
            again : (new : List ℕ) (after : Sender) (r : Block)
                → FramesWritten more (record { at = next.at; zeros = zeros + next.zeros }) (fill_up (served s c) store next.at enable u) new after r
                → FramesWritten old front (fill_up s₀ store front.at enable u) new after (with_more (placed + 1) r)
            again new after r f =
                let later = fill_up (served s c) store next.at enable u in
                let here : PlacedFrame = record { number = c; packet = next_packet s store c } in
                let e : fill_up s store at enable u ≡ and_then here later =
                rw (← end) at (fill_up_more s store at enable u g.range c p fits) in
                let n : placed + (1 + r.placed) ≡ placed + 1 + r.placed = omega arith in
                rw n at
                (g.rest new after (with_more 1 r)
                (rw e (FramesWritten-and_then here later after r w f)))
