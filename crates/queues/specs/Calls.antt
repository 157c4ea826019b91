-- Lists of offering and block calls, on the record and store as the calls' contracts say, and what they do to the queues: "Records and stores go
-- from call to call .. A refused call sends and places nothing" (document 01, "What demand 3 counts"). "From its listing on, an end has this buffer, the
-- same one, in all its calls or in none" (document 02, ask 7): it goes from call to call with the store.
use Rattle.std.specs.Prelude.{ℕ, Bool, cond, List, [], ◌∷◌, ◌++◌, take, eqb}
use Rattle.bits.specs.Bits.{bits_of}
use Rattle.packet.specs.Circuits.{listed, listing}
use Rattle.packet.specs.Stores.{Stores}
use Rattle.offering.specs.declared.Sender.{Sender}
use Rattle.offering.specs.Record.{fresh}
use Rattle.offering.specs.Offering.{offer_refusal, sender_after_offer, stores_after_offer, long_refusal, sender_after_long, stores_after_long}
use Rattle.sender.specs.Blocks.{System, system_packets, enable_bits, block_refusal, sender_after_block, buffer_after_block}
use Rattle.queues.specs.Queues.{Queues, fresh_queues}
use Rattle.queues.specs.Effects.{Effect, no_effect, sends_message, takes_frames, queues_after}

-- a call: an offer of a message at a circuit number, one of a long message, or a block of N bits, of which U may be used, into a buffer
pub data Call : Type 0 where
  offer : ℕ → ℕ → ℕ → List ℕ → Call
  offer_long : ℕ → ℕ → List ℕ → Call
  block : ℕ → ℕ → List ℕ → System → Call

-- an end's state between two calls
pub record End : Type 0 where
  pub sender : Sender
  pub store : Stores

-- "A fresh sender .. is the record that an accepted listing returned"; "a store holds any bytes at first", and so does a long buffer
abbrev pub fresh_end : List ℕ → Stores → End
fresh_end bytes store = record { sender = fresh (listing bytes); store = store }

-- the call is accepted
unfoldable pub accepted : End → Call → Bool
accepted e (offer c priority repetition message) = eqb (offer_refusal e.sender e.store c priority repetition message) 0
accepted e (offer_long priority repetition message) = eqb (long_refusal e.sender e.store priority repetition message) 0
accepted e (block n u buffer y) = eqb (block_refusal e.sender e.store buffer n u y) 0

-- the state after a call
unfoldable pub after_call : End → Call → End
after_call e (offer c priority repetition message) =
    record {
      sender = sender_after_offer e.sender e.store c priority repetition message;
      store = stores_after_offer e.sender e.store c priority repetition message;
    }
after_call e (offer_long priority repetition message) =
    record {
      sender = sender_after_long e.sender e.store priority repetition message;
      store = stores_after_long e.sender e.store priority repetition message;
    }
after_call e (block n u buffer y) =
    record { sender = sender_after_block e.sender e.store buffer n u y; store = e.store }

unfoldable pub after_calls : End → List Call → End
after_calls e [] = e
after_calls e (call ∷ calls) = after_calls (after_call e call) calls

-- what an accepted call does to the queues
unfoldable pub effect : Call → Effect
effect (offer c priority repetition message) = sends_message c priority repetition message
effect (offer_long priority repetition message) = sends_message 0 priority repetition message
effect (block n u buffer y) = takes_frames (record { size = n; before = system_packets y; new_enable = enable_bits y; usable = u })

-- "A refused call sends and places nothing"
unfoldable pub effect_of : End → Call → Effect
effect_of e call = cond (accepted e call) (effect call) no_effect

unfoldable pub effects : End → List Call → List Effect
effects e [] = []
effects e (call ∷ calls) = effect_of e call ∷ effects (after_call e call) calls

-- the queues after calls of a fresh sender, one for each circuit that its listing returned
unfoldable pub queues_after_calls : List ℕ → Stores → List Call → Queues
queues_after_calls bytes store calls = queues_after (fresh_queues (listed (listing bytes))) (effects (fresh_end bytes store) calls)

-- "Each accepted block call gives the N bits of its block, as it leaves them": in the buffer that it was lent
unfoldable pub made : End → Call → List (List Bool)
made e (offer c priority repetition message) = []
made e (offer_long priority repetition message) = []
made e (block n u buffer y) = take n (bits_of (buffer_after_block e.sender e.store buffer n u y)) ∷ []

unfoldable pub blocks_made : End → List Call → List (List Bool)
blocks_made e [] = []
blocks_made e (call ∷ calls) = cond (accepted e call) (made e call) [] ++ blocks_made (after_call e call) calls
