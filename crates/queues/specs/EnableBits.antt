-- The enable bits that calls put in force, and the frames placed under them (document 02, ask 4).
use Rattle.std.specs.Prelude.{ℕ, true, cond, List, [], ◌∷◌, ◌++◌, ◌≡◌}
use Rattle.packet.specs.Circuits.{circuits_of, list_refusal}
use Rattle.packet.specs.Stores.{Stores}
use Rattle.packet.specs.Lists.{AllAre}
use Rattle.parsing.specs.Packets.{priority}
use Rattle.picking.specs.Picking.{enabled}
use Rattle.queues.specs.Queues.{fresh_queues}
use Rattle.queues.specs.Effects.{packets_taken, taken_by, queues_after}
use Rattle.queues.specs.Calls.{Call, offer, offer_long, block, End, fresh_end, accepted, after_call, after_calls, effect_of, effects}
use Rattle.queues.specs.Sent.{frames_of}

-- the enable bits of the system packet that a call wants, if it wants one
unfoldable pub enable_asked : Call → List ℕ
enable_asked (offer c p r message) = []
enable_asked (offer_long p r message) = []
enable_asked (block n u buffer y) = cond y.wanted (y.enable ∷ []) []

-- those of the system packets sent, in order: "A refused block changes nothing here"
unfoldable pub enables_sent : End → List Call → List ℕ
enables_sent e [] = []
enables_sent e (call ∷ calls) = cond (accepted e call) (enable_asked call) [] ++ enables_sent (after_call e call) calls

-- the last of numbers; `otherwise`, where there is none
unfoldable pub last_or : ℕ → List ℕ → ℕ
last_or otherwise [] = otherwise
last_or otherwise (n ∷ ns) = last_or n ns

-- "its enable bits rule its own block and all later ones, until another system packet is sent. A fresh sender has all four enabled": those in force
-- after calls of a fresh sender
unfoldable pub enable_after : List ℕ → Stores → List Call → ℕ
enable_after bytes store calls = last_or 15 (enables_sent (fresh_end bytes store) calls)

-- the record has these bits, whatever was listed and called
unfoldable pub EnableInForce : Type 0
EnableInForce = (bytes : List ℕ) (store : Stores) (calls : List Call) → (after_calls (fresh_end bytes store) calls).sender.enable ≡ enable_after bytes store calls

-- our packets in the block of a call behind other calls, in order: none where it is refused. That they are those in the block's bits is
-- `blocks_are_queues`
unfoldable pub packets_placed : List ℕ → Stores → List Call → Call → List (List ℕ)
packets_placed bytes store calls call =
    let before = queues_after (fresh_queues (circuits_of bytes)) (effects (fresh_end bytes store) calls) in
    packets_taken (frames_of (taken_by before (effect_of (after_calls (fresh_end bytes store) calls) call)))

-- each has a priority that the bits in force in its block enable, which are those after its call. The record of a refused listing places nothing
unfoldable pub PlacedEnabled : Type 0
PlacedEnabled =
    (bytes : List ℕ) (store : Stores) (calls : List Call) (call : Call) → list_refusal bytes ≡ 0
    → AllAre (λ (p : List ℕ). enabled (enable_after bytes store (calls ++ call ∷ [])) (priority p) ≡ true) (packets_placed bytes store calls call)
