-- The blocks that calls make from a fresh sender are those that the block rule takes from the queues: the N bits of each, as the call leaves
-- them. So is whatever else accepted calls tell by their blocks.
use Prim.Native.Nat.{ℕ}
use mathlib.Core.Bool.{Bool, true, false, cond}
use mathlib.Core.List.{List, [], ◌∷◌, ◌++◌, map, map-append}
use mathlib.Core.Path.{◌≡◌, refl, sym, ap, ap₂, ◌∙◌}
use borrow.Author.Tests.{eqb-true}
use Rattle.packet.specs.Circuits.{circuits_of, list_refusal}
use Rattle.packet.specs.Stores.{Stores}
use Rattle.offering.specs.declared.Sender.{Sender}
use Rattle.sender.specs.Blocks.{block_of, System, system_packets, enable_bits, block_packets, block_bits, block_refusal}
use Rattle.sender.proofs.InForce.{in_force_at_most_15}
use Rattle.sender.proofs.UsedAtMostU.{take-buffer_after_block}
use Rattle.queues.specs.Queues.{Queues, fresh_queues}
use Rattle.queues.specs.Effects.{no_effect, queues_after_effect, TakenBlock, bits_of_block, taken_by, blocks_taken}
use Rattle.queues.specs.Calls.{Call, offer, offer_long, block, End, fresh_end, accepted, after_call, effect, effect_of, effects, made, blocks_made}
use Rattle.queues.specs.Stands.{Stands}
use Rattle.queues.proofs.StandsBlock.{stands_block}
use Rattle.queues.proofs.StandsCalls.{stands_fresh, stands_call}

-- the block of one call
block-taken : (s : Sender) (store : Stores) (q : Queues) (n u : ℕ) (buffer : List ℕ) (y : System) → Stands s store q → block_refusal s store buffer n u y ≡ 0
    → block_bits s store n u (system_packets y) (enable_bits y) ∷ [] ≡ map bits_of_block (taken_by q (effect (block n u buffer y)))
unfolding block_bits block_packets taken_by effect bits_of_block
block-taken s store q n u buffer y h e =
    ap (λ ps. block_of n (system_packets y ++ ps) ∷ []) (stands_block s store q _ h (in_force_at_most_15 s store buffer n u y e)).packets

made-accepted : (call : Call) (e : End) (q : Queues) → Stands e.sender e.store q → accepted e call ≡ true
    → made e call ≡ map bits_of_block (taken_by q (effect call))
unfolding made taken_by accepted effect
made-accepted (offer c priority repetition message) e q h a = refl
made-accepted (offer_long priority repetition message) e q h a = refl
made-accepted (block n u buffer y) e q h a =
    let z : block_refusal e.sender e.store buffer n u y ≡ 0 = eqb-true (block_refusal e.sender e.store buffer n u y) 0 a in
    ap (λ bits. bits ∷ []) (take-buffer_after_block e.sender e.store buffer n u y z)
    ∙ block-taken e.sender e.store q n u buffer y h z

-- ---- what accepted calls tell, one after another, is what the blocks that their effects take tell

module _ {A : Type 0} (of : TakenBlock → A) (one : End → Call → List A)
    (taken : (call : Call) (e : End) (q : Queues) → Stands e.sender e.store q → accepted e call ≡ true → one e call ≡ map of (taken_by q (effect call)))
  where
    told_call : (call : Call) (e : End) (q : Queues) → Stands e.sender e.store q
        → cond (accepted e call) (one e call) [] ≡ map of (taken_by q (effect_of e call))
    unfolding effect_of taken_by
    told_call call e q h = go (accepted e call) refl
      where
        go : (b : Bool) → accepted e call ≡ b → cond b (one e call) [] ≡ map of (taken_by q (cond b (effect call) no_effect))
        go true a = taken call e q h a
        go false a = refl

    -- `all` is what they tell in turn
    module _ (all : End → List Call → List A) (none : (e : End) → all e [] ≡ [])
        (more : (e : End) (call : Call) (calls : List Call) → all e (call ∷ calls) ≡ cond (accepted e call) (one e call) [] ++ all (after_call e call) calls)
      where
        pub told_calls : (calls : List Call) (e : End) (q : Queues) → Stands e.sender e.store q
            → all e calls ≡ map of (blocks_taken q (effects e calls))
        unfolding blocks_taken effects
        told_calls [] e q h = none e
        told_calls (call ∷ calls) e q h =
            let q' : Queues = queues_after_effect q (effect_of e call) in
            more e call calls
            ∙ ap₂ ◌++◌ (told_call call e q h) (told_calls calls (after_call e call) q' (stands_call call e q h))
            ∙ sym (map-append of (taken_by q (effect_of e call)) (blocks_taken q' (effects (after_call e call) calls)))

-- so it is with the bits that they leave
blocks_made-blocks_taken : (calls : List Call) (e : End) (q : Queues) → Stands e.sender e.store q
    → blocks_made e calls ≡ map bits_of_block (blocks_taken q (effects e calls))
unfolding blocks_made
blocks_made-blocks_taken = told_calls bits_of_block made made-accepted blocks_made (λ e. refl) (λ e call calls. refl)

pub blocks_are_queues : (bytes : List ℕ) (store : Stores) (calls : List Call) → list_refusal bytes ≡ 0
    → blocks_made (fresh_end bytes store) calls
    ≡ map bits_of_block (blocks_taken (fresh_queues (circuits_of bytes)) (effects (fresh_end bytes store) calls))
blocks_are_queues bytes store calls e =
    blocks_made-blocks_taken calls (fresh_end bytes store) (fresh_queues (circuits_of bytes)) (stands_fresh bytes store e)
