-- Demand 3, one claim about whole lists of calls (document 01, "What demand 3 counts"; document 02, ask 7), from top to bottom: what was sent, what became of
-- the bits, what came, what the receiver told, what is taken as given, and the claim. The calls are those of the contracts: `Rattle.queues.specs.Calls` and
-- `Rattle.receiver.specs.Reads` have the lists of them, the records and stores between them, and the blocks and notices that they give;
-- `Rattle.queues.specs.Effects` has what they send and place, `Rattle.queues.specs.Sent` what of it is at a circuit, each packet counted once.
use Rattle.std.specs.Prelude.{ℕ, zero, suc, ◌+◌, ◌-◌, ◌*◌, ◌<◌, Bool, true, false, cond, not, ◌&&◌, ◌||◌, ◌≡◌, length, take, drop, get_or, replicate, ltb, eqb}
use mathlib.Core.List.{List, [], ◌∷◌, ◌++◌, map, flatten}
use Rattle.std.specs.Prelude.{Option, None, Some}
use Rattle.bits.specs.Bits.{Bytes}
use Rattle.hdlc.specs.Frames.{flag, frame}
use Rattle.hdlc.specs.Bodies.{holds, Body, bodies, Judged, passes, spoilt, nothing, judge}
use Rattle.packet.specs.declared.Circuit.{Circuit}
use Rattle.packet.specs.Circuits.{circuits_of, alike, list_refusal, no_circuit}
use Rattle.packet.specs.Messages.{longest, packets}
use Rattle.packet.specs.Lists.{any_of, all_of, those, AllAre}
use Rattle.queues.specs.Queues.{Message, Queues, fresh_queues, Placed}
use Rattle.queues.specs.Effects.{Effect, TakenBlock, bits_of_block, messages_sent, blocks_taken}
use Rattle.queues.specs.Calls.{Call, offer, offer_long, block, End, fresh_end, effects, blocks_made}
use Rattle.queues.specs.Sent.{messages_at, placed_at, each_once, frames_of}
use Rattle.notices.specs.declared.Fate.{Fate}
use Rattle.notices.specs.declared.Fate.TheVariants.{Copy as CopyFate, Begun, Held, Whole, Orphan, Wrong}
use Rattle.notices.specs.declared.Notice.{Notice}
use Rattle.notices.specs.declared.Notice.TheVariants.{End as EndNotice, Spoilt, Malformed, System as SystemNotice, Elsewhere, Circuit as CircuitNotice}
use Rattle.packet.specs.Stores.{region, Stores, takes_long}
use Rattle.receiver.specs.Reads.{ReadCall, ReceiverEnd, fresh_receiver_end, bits_of_reads, Report, told_by_reads}

-- ---- what is free

-- "Any stretches, empty ones too, may be replaced by any bits or none": the joined bits in pieces, each kept or replaced by other bits
pub data Piece : Type 0 where
  kept : List Bool → Piece
  replaced : List Bool → List Bool → Piece

-- all that is given freely: at the sender a circuit list, the store's first bytes and "offering and block calls .. of any length and order, accepted or
-- refused"; the pieces; at the receiver a circuit list, the store's first bytes and reading calls. Beside its store "an end has this buffer, the same one,
-- in all its calls or in none" (document 02, ask 7), with any first bytes
pub record Pass : Type 0 where
  pub sender_list : List ℕ
  pub sender_store : Stores
  pub calls : List Call
  pub pieces : List Piece
  pub receiver_list : List ℕ
  pub receiver_store : Stores
  pub reads : List ReadCall

-- ---- what was sent: "The calls alone tell what was sent"

abbrev pub sender : Pass → End
sender p = fresh_end p.sender_list p.sender_store

abbrev pub queues : Pass → Queues
queues p = fresh_queues (circuits_of p.sender_list)

-- what the calls do to the queues, in order: "A refused call sends and places nothing"
abbrev pub effects_of_calls : Pass → List Effect
effects_of_calls p = effects (sender p) p.calls

-- "the list of messages sent there, in the order of their offers": each with the number of its first packet there, counted from 0
unfoldable pub messages : Pass → Circuit → List Message
messages p k = messages_at k (messages_sent (queues p) (effects_of_calls p))

-- "Each accepted block call gives the N bits of its block, as it leaves them. These are joined in the order of the calls."
unfoldable pub joined_bits : Pass → List Bool
joined_bits p = flatten (blocks_made (sender p) p.calls)

-- "An accepted block call places frames as the block rule says": what is in those blocks
unfoldable pub blocks : Pass → List TakenBlock
blocks p = blocks_taken (queues p) (effects_of_calls p)

-- a frame in the joined bits: the number of its first flag's first bit, its packet, and the circuit and copy, or none for one that stands before ours
pub record Frame : Type 0 where
  pub from : ℕ
  pub packet : List ℕ
  pub whose : Option Placed

-- "its bits and both its flags"
unfoldable pub frame_length : Frame → ℕ
frame_length f = length (flag ++ frame f.packet ++ flag)

-- a packet in a block, and the circuit and copy, or none for one that stands before ours
pub record InBlock : Type 0 where
  pub packet : List ℕ
  pub whose : Option Placed

abbrev pub not_ours : List ℕ → InBlock
not_ours p = record { packet = p; whose = None }

abbrev pub ours : Placed → InBlock
ours q = record { packet = q.copy.packet; whose = Some q }

-- all of them, in order
unfoldable pub packets_in : TakenBlock → List InBlock
packets_in b = map not_ours b.before ++ map ours b.frames

-- their frames, where the flag before them has its first bit at number n, "neighbours sharing flags"
unfoldable pub frames_from : ℕ → List InBlock → List Frame
frames_from n [] = []
frames_from n (p ∷ ps) = record { from = n; packet = p.packet; whose = p.whose } ∷ frames_from (n + length (frame p.packet ++ flag)) ps

-- the frames of blocks, the first of which begins at number n
unfoldable pub frames_in_blocks : ℕ → List TakenBlock → List Frame
frames_in_blocks n [] = []
frames_in_blocks n (b ∷ bs) = frames_from n (packets_in b) ++ frames_in_blocks (n + length (bits_of_block b)) bs

unfoldable pub frames : Pass → List Frame
frames p = frames_in_blocks 0 (blocks p)

-- ---- what became of the bits

-- the pieces as they were
unfoldable pub originals : List Piece → List Bool
originals [] = []
originals (kept bits ∷ pieces) = bits ++ originals pieces
originals (replaced old new ∷ pieces) = old ++ originals pieces

-- a bit that results: its number in the joined bits, or none where it was put in
pub record Bit : Type 0 where
  pub number : Option ℕ
  pub value : Bool

unfoldable pub kept_bits : ℕ → List Bool → List Bit
kept_bits n [] = []
kept_bits n (b ∷ bs) = record { number = Some n; value = b } ∷ kept_bits (suc n) bs

unfoldable pub new_bit : Bool → Bit
new_bit b = record { number = None; value = b }

-- the bits that result of pieces, the first of which begins at number n
unfoldable pub resulting : ℕ → List Piece → List Bit
resulting n [] = []
resulting n (kept bits ∷ pieces) = kept_bits n bits ++ resulting (n + length bits) pieces
resulting n (replaced old new ∷ pieces) = map new_bit new ++ resulting (n + length old) pieces

unfoldable pub result : Pass → List Bit
result p = resulting 0 p.pieces

unfoldable pub values : List Bit → List Bool
values bits = map (λ (b : Bit). b.value) bits

-- ---- what came

-- "Bits lie together if nothing was put between them": the bits begin with the k that had the numbers from n on, in a row
unfoldable pub is_number : ℕ → Option ℕ → Bool
is_number n None = false
is_number n (Some m) = eqb m n

unfoldable pub begin_with : ℕ → ℕ → List Bit → Bool
begin_with n zero bits = true
begin_with n (suc k) [] = false
begin_with n (suc k) (b ∷ bs) = is_number n b.number && begin_with (suc n) k bs

-- those k stand in a row somewhere
unfoldable pub together : ℕ → ℕ → List Bit → Bool
together n k [] = begin_with n k []
together n k (b ∷ bs) = begin_with n k (b ∷ bs) || together n k bs

-- "A frame came whole if its bits and both its flags lie together outside every replaced stretch"
unfoldable pub came_whole : List Bit → Frame → Bool
came_whole bits f = together f.from (frame_length f) bits

-- the frame is that of a copy of a circuit's packet number i
unfoldable pub is_copy_of : Circuit → ℕ → Option Placed → Bool
is_copy_of k i None = false
is_copy_of k i (Some q) = alike k q.circuit && eqb q.copy.number i

-- "A placed packet .. has come if the frame of a copy came whole. Otherwise it is lost"
unfoldable pub comes : Pass → Circuit → ℕ → Bool
comes p k i = any_of (λ f. is_copy_of k i f.whose && came_whole (result p) f) (frames p)

-- of the packets placed at a circuit, "in the order in which packets were placed there", whether each came
unfoldable pub came : Pass → Circuit → List Bool
came p k = map (comes p k) (each_once (placed_at k (frames_of (blocks p))))

-- from the first to come on, and up to the last to come
unfoldable pub from_first : List Bool → List Bool
from_first [] = []
from_first (true ∷ rest) = true ∷ rest
from_first (false ∷ rest) = from_first rest

unfoldable pub up_to_last : List Bool → List Bool
up_to_last [] = []
up_to_last (true ∷ rest) = true ∷ up_to_last rest
up_to_last (false ∷ rest) = cond (any_of (λ b. b) rest) (false ∷ up_to_last rest) []

unfoldable pub from_first_to_last : List Bool → List Bool
from_first_to_last bs = up_to_last (from_first bs)

-- how many did not come
unfoldable pub lost : List Bool → ℕ
lost [] = 0
lost (true ∷ rest) = lost rest
lost (false ∷ rest) = suc (lost rest)

-- a test holds of the n numbers from i on
unfoldable pub all_from : (ℕ → Bool) → ℕ → ℕ → Bool
all_from test i zero = true
all_from test i (suc n) = test i && all_from test (suc i) n

-- "the list of messages sent there .. without those of which some packet has not come"
unfoldable pub messages_that_came : Pass → Circuit → List (List ℕ)
messages_that_came p k =
    map (λ (m : Message). m.text) (those (λ (m : Message). all_from (comes p k) m.first (packets (length m.text))) (messages p k))

-- ---- what the receiver told

abbrev pub receiver : Pass → ReceiverEnd
receiver p = fresh_receiver_end p.receiver_list p.receiver_store

-- the loss that a notice tells of the receiver's circuit number n
unfoldable pub loss_at : ℕ → Notice → ℕ
loss_at n (CircuitNotice c loss fate) = cond (eqb c n) loss 0
loss_at n EndNotice = 0
loss_at n Spoilt = 0
loss_at n Malformed = 0
loss_at n (SystemNotice enable code len) = 0
loss_at n Elsewhere = 0

-- "The sum is over the losses of all notices that name the receiver's number for the address"
unfoldable pub losses_at : ℕ → List Report → ℕ
losses_at n [] = 0
losses_at n (t ∷ ts) = loss_at n t.notice + losses_at n ts

-- "for each Whole among them in order, the start of the region, as long as that notice says, when its reading call returned"; of a long message the start of
-- the buffer: "Its bytes go to that buffer from the start, and at Whole it is handed over there" (document 02, ask 7)
unfoldable pub handed_from : Fate → ℕ → Stores → List (List ℕ)
handed_from (Whole len) n l = cond (ltb longest len) (take len l.long) (take len (drop (region * n) l.store)) ∷ []
handed_from CopyFate n l = []
handed_from Begun n l = []
handed_from Held n l = []
handed_from Orphan n l = []
handed_from Wrong n l = []

unfoldable pub handed_at : ℕ → Notice → Stores → List (List ℕ)
handed_at n (CircuitNotice c loss fate) l = cond (eqb c n) (handed_from fate n l) []
handed_at n EndNotice l = []
handed_at n Spoilt l = []
handed_at n Malformed l = []
handed_at n (SystemNotice enable code len) l = []
handed_at n Elsewhere l = []

unfoldable pub handed_over : ℕ → List Report → List (List ℕ)
handed_over n [] = []
handed_over n (t ∷ ts) = handed_at n t.notice t.store ++ handed_over n ts

abbrev pub notices : Pass → List Report
notices p = told_by_reads (receiver p) p.reads

-- ---- what the lists, the pieces and the calls are

-- what a call is lent is bytes: numbers below 256
unfoldable pub BytesIn : Call → Type 0
BytesIn (offer c priority repetition text) = Bytes text
BytesIn (offer_long priority repetition text) = Bytes text
BytesIn (block n u buffer y) = Bytes y.information

pub record Given (p : Pass) : Type 0 where
  -- both lists are accepted, and they and what the calls are lent are bytes
  pub sender_listed : list_refusal p.sender_list ≡ 0
  pub receiver_listed : list_refusal p.receiver_list ≡ 0
  pub sender_bytes : Bytes p.sender_list
  pub receiver_bytes : Bytes p.receiver_list
  pub call_bytes : AllAre BytesIn p.calls
  -- the pieces are those of the joined bits
  pub in_pieces : originals p.pieces ≡ joined_bits p
  -- "Reading calls take the bits that result if what the accepted ones read, joined in order, is exactly these"
  pub takes : bits_of_reads (receiver p) p.reads ≡ values (result p)

-- ---- "Two things are taken as given" (the brief)

-- the body passes
unfoldable pub is_passed : Judged → Bool
is_passed (passes packet) = true
is_passed spoilt = false
is_passed nothing = false

-- the body "consists of the bits of a frame .. and the flags at its ends are that frame's own"
unfoldable pub is_frame : List Bit → Body → Frame → Bool
is_frame bits b f = eqb (b.closing + 8 - b.opening) (frame_length f) && begin_with f.from (frame_length f) (drop b.opening bits)

-- "No frame passes but those that came whole if each body that passes in these bits consists of the bits of a frame that came whole, perhaps a system
-- packet's, and the flags at its ends are that frame's own"
unfoldable pub no_other_passes : List Bit → List Frame → Bool
no_other_passes bits fs = all_of (λ b. not (is_passed (judge b.bits)) || any_of (is_frame bits b) fs) (bodies (values bits))

-- "never more than six packets in a row, copies not counted, are lost there between two that came"
unfoldable pub at_most_six_lost : List Bool → Bool
at_most_six_lost bs = not (holds (replicate 7 false) (from_first_to_last bs))

-- ---- the claim

-- the circuit that the receiver lists as number n
unfoldable pub circuit_at : Pass → ℕ → Circuit
circuit_at p n = get_or (circuits_of p.receiver_list) n no_circuit

-- a long message, "of 4,095 to 65,535 bytes", was sent at a circuit
unfoldable pub sent_long : Pass → Circuit → Bool
sent_long p k = any_of (λ (m : Message). ltb longest (length m.text)) (messages p k)

-- the receiver takes every message sent at its circuit number n: "if the receiver has the buffer and lists that address as its own circuit 0. An address sent
-- no long message needs neither." (document 02, ask 7)
unfoldable pub takes_all_sent : Pass → ℕ → Bool
takes_all_sent p n = not (sent_long p (circuit_at p n)) || takes_long p.receiver_store.given n

-- "What is promised of lost packets and whole messages now includes these, whoever mixes long and short on one circuit" (document 02, ask 7)
pub record Claim (p : Pass) (n : ℕ) : Type 0 where
  -- "the sum of the losses reported equals the number of packets lost there after the first to come and before the last"
  pub losses : losses_at n (notices p) ≡ lost (from_first_to_last (came p (circuit_at p n)))
  -- "The messages handed over there are exactly those sent there of which every packet came in some copy, each once, in sending order"
  pub handed : takes_all_sent p n ≡ true → handed_over n (notices p) ≡ messages_that_came p (circuit_at p n)

-- "at each address which that receiver lists"
unfoldable pub Demand3 : Type 0
Demand3 =
    (p : Pass) → Given p → no_other_passes (result p) (frames p) ≡ true →
    (n : ℕ) → n < length (circuits_of p.receiver_list) → at_most_six_lost (came p (circuit_at p n)) ≡ true →
    Claim p n
