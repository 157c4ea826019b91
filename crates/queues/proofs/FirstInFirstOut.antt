-- "each the first copy waiting at its circuit, which then waits no more": the copies sent at a circuit are those placed there, in order, and
-- then those that wait.
use Prim.Native.Nat.{ℕ}
use mathlib.Core.List.{List, ◌++◌}
use mathlib.Core.Path.{◌≡◌}
use Rattle.packet.specs.declared.Circuit.{Circuit}
use Rattle.packet.specs.Circuits.{circuits_of, circuits_refusal, list_refusal}
use Rattle.packet.proofs.CircuitLists.{circuits_refusal-zero, listed-listing, listing-refusal}
use Rattle.packet.specs.Stores.{Stores}
use Rattle.queues.specs.Queues.{Queues, fresh_queue, fresh_queues, queue_for}
use Rattle.queues.specs.Effects.{Effect, queues_after, messages_sent, blocks_taken}
use Rattle.queues.specs.Calls.{Call, fresh_end, effects}
use Rattle.queues.specs.Sent.{messages_at, copies_sent, placed_at, frames_of}
use Rattle.queues.proofs.StandsCalls.{stands_fresh, right_calls}
use Rattle.queues.proofs.AtCircuit.{AtCircuit, apart_fresh, queue_for-fresh, at_effects}

-- calls of a fresh sender, at any circuit
module _ (bytes : List ℕ) (store : Stores) (calls : List Call) (k : Circuit) (listed : list_refusal bytes ≡ 0) where
  -- the queues at first, and what the calls do to them
  abbrev first : Queues
  first = fresh_queues (circuits_of bytes)

  abbrev effects_of_calls : List Effect
  effects_of_calls = effects (fresh_end bytes store) calls

  -- what happened there
  pub at_calls : AtCircuit k first (messages_sent first effects_of_calls) (frames_of (blocks_taken first effects_of_calls)) (queues_after first effects_of_calls)
  at_calls =
      let right : circuits_refusal (circuits_of bytes) ≡ 0 = rw (listed-listing bytes listed) at (listing-refusal bytes) in
      at_effects k effects_of_calls first (apart_fresh (circuits_of bytes) (circuits_refusal-zero (circuits_of bytes) right).2)
      (right_calls calls (fresh_end bytes store) first (stands_fresh bytes store listed))

  -- the copies sent there are those placed, in order, and then those that wait
  pub first_in_first_out : copies_sent (messages_at k (messages_sent first effects_of_calls))
      ≡ placed_at k (frames_of (blocks_taken first effects_of_calls)) ++ (queue_for (queues_after first effects_of_calls).queues k).copies
  unfolding fresh_queue
  first_in_first_out = rw (queue_for-fresh (circuits_of bytes) k) at at_calls.copies
