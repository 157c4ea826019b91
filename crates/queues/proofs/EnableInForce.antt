-- After any calls the enable bits in force are those of the last system packet sent: only an accepted block with one changes them.
use Prim.Native.Nat.{ℕ, zero, suc, ◌+◌}
use mathlib.Core.Bool.{Bool, true, false, cond}
use mathlib.Core.List.{List, [], ◌∷◌, ◌++◌}
use mathlib.Core.Path.{◌≡◌, refl, sym, ap, ◌∙◌}
use lib.ListN.{length}
use lib.Dec.{eqb}
use Rattle.packet.specs.Stores.{Stores}
use Rattle.offering.specs.declared.Sender.{Sender}
use Rattle.offering.specs.Record.{fresh}
use Rattle.offering.specs.Offering.{offer_refusal, long_refusal, sender_after_long, offered_sender, sender_after_offer}
use Rattle.picking.specs.Picking.{pick, served}
use Rattle.writing.specs.NextFrame.{next_frame}
use Rattle.sender.specs.Blocks.{Filled, full, and_then, fill, fill_up, System, system_packets, enable_bits, in_force, ruled, block_filled, block_refusal, sender_after_block}
use Rattle.sender.proofs.Filling.{placing_cases}
use Rattle.queues.specs.Calls.{Call, offer, offer_long, block, End, fresh_end, accepted, after_call, after_calls}
use Rattle.queues.specs.EnableBits.{enable_asked, enables_sent, last_or, enable_after, EnableInForce}

-- filling leaves them
fill-enable : (n : ℕ) (s : Sender) (store : Stores) (at enable u : ℕ) → (fill n s store at enable u).sender.enable ≡ s.enable
unfolding fill full and_then served
fill-enable zero s store at enable u = refl
fill-enable (suc n) s store at enable u =
    placing_cases (λ (f : Filled). f.sender.enable ≡ s.enable) (pick s enable) s store at u
    (λ c. fill n (served s c) store (at + length (next_frame s store c)) enable u) refl
    (λ c p h. fill-enable n (served s c) store (at + length (next_frame s store c)) enable u)

pub in_force-last_or : (held : ℕ) (y : System) → in_force held (enable_bits y) ≡ last_or held (cond y.wanted (y.enable ∷ []) [])
unfolding in_force enable_bits last_or
in_force-last_or held y = go y.wanted refl
  where
    go : (w : Bool) → y.wanted ≡ w → in_force held (enable_bits y) ≡ last_or held (cond w (y.enable ∷ []) [])
    go true e = rw (e, enable_bits)
    go false e = rw (e, enable_bits)

-- an accepted call, and a refused one
pub enable_call : (call : Call) (e : End) → (after_call e call).sender.enable ≡ last_or e.sender.enable (cond (accepted e call) (enable_asked call) [])
unfolding after_call accepted enable_asked sender_after_offer sender_after_long offered_sender ruled block_filled fill_up sender_after_block last_or
enable_call (offer c priority repetition message) e = go (eqb (offer_refusal e.sender e.store c priority repetition message) 0)
  where
    go : (b : Bool) → (cond b (offered_sender e.sender c priority repetition message) e.sender).enable ≡ last_or e.sender.enable (cond b [] [])
    go true = refl
    go false = refl
enable_call (offer_long priority repetition message) e = go (eqb (long_refusal e.sender e.store priority repetition message) 0)
  where
    go : (b : Bool) → (cond b (offered_sender e.sender 0 priority repetition message) e.sender).enable ≡ last_or e.sender.enable (cond b [] [])
    go true = refl
    go false = refl
enable_call (block n u buffer y) e = go (eqb (block_refusal e.sender e.store buffer n u y) 0)
  where
    go : (b : Bool) → (cond b (block_filled e.sender e.store u (system_packets y) (enable_bits y)).sender e.sender).enable
        ≡ last_or e.sender.enable (cond b (cond y.wanted (y.enable ∷ []) []) [])
    go true = fill-enable _ (ruled e.sender (enable_bits y)) e.store _ _ u ∙ in_force-last_or e.sender.enable y
    go false = refl

last_or_append : (a b : List ℕ) (otherwise : ℕ) → last_or otherwise (a ++ b) ≡ last_or (last_or otherwise a) b
unfolding last_or
last_or_append [] b otherwise = refl
last_or_append (n ∷ a) b otherwise = last_or_append a b n

enable_calls : (calls : List Call) (e : End) → (after_calls e calls).sender.enable ≡ last_or e.sender.enable (enables_sent e calls)
unfolding after_calls enables_sent last_or
enable_calls [] e = refl
enable_calls (call ∷ calls) e =
    let first : List ℕ = cond (accepted e call) (enable_asked call) [] in
    let later : List ℕ = enables_sent (after_call e call) calls in
    enable_calls calls (after_call e call)
    ∙ ap (λ held. last_or held later) (enable_call call e)
    ∙ sym (last_or_append first later e.sender.enable)

-- after any calls of a fresh sender
pub enable-in-force : EnableInForce
unfolding EnableInForce enable_after fresh
enable-in-force bytes store calls = enable_calls calls (fresh_end bytes store)
