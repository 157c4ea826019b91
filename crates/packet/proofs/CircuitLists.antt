-- The laws of circuit lists: a search over what is left of a list, the circuits of bytes taken three at a time, and what a listing
-- returns.
use Prim.Native.Nat.{ℕ, zero, suc, ◌+◌, ◌*◌, ◌≤◌, ◌<◌, min}
use native.Mathlib.Numerals.{add-one}
use native.Mathlib.Omega.{arith}
use mathlib.Core.Bool.{Bool, true, false, cond, not, ◌&&◌, ◌||◌, and-eq-true_iff}
use mathlib.Core.List.{List, [], ◌∷◌, ◌++◌}
use Rattle.std.specs.Prelude.{None, Some}
use Rattle.std.specs.List.{list_any, range_with_len, position_or_len}
use mathlib.Core.Path.{◌≡◌, refl, sym, ◌∙◌}
use borrow.Author.Tests.{ltb-true, ltb-false, lt-ltb, le-ltb, eq-eqb, ne_eqb, eqb-true, eqb-false}
use lib.Dec.{ltb, eqb}
use lib.ListN.{length, take, drop, get_or, set, replicate, length-take, drop_of_length-le}
use lib.Seq.{sets, take_all, drop-cons, take-append_seam, get_or-take, take-take}
use Rattle.bits.proofs.Tests.{or_left, or_right}
use Rattle.packet.specs.declared.Circuit.{Circuit}
use Rattle.packet.specs.declared.Circuits.{Circuits}
use Rattle.packet.specs.Circuits.{circuits_of, wrong_length, address_ff, wrong_extension, alike, two_alike, circuits_refusal, list_refusal, listed, no_circuit, record_of, listing, number_from}
use Rattle.packet.specs.Lists.{any_of, first_from}
use Rattle.packet.proofs.Lists.{take_min}

-- what is left of a list from place i on begins with the element at i
drop_next : {A : Type 0} (l : List A) (i : ℕ) (d : A) → i < length l → drop i l ≡ get_or l i d ∷ drop (i + 1) l
drop_next l i d h = rw add-one (drop-cons l i d h)

-- what a search finds: some element passes, and the number is an element's; or none passes
module _ {A : Type 0} (test : A → Bool) where
  pub first_from_some : (l : List A) (m n : ℕ) → first_from test l m ≡ Some n → (any_of test l ≡ true) × (n < m + length l)
  unfolding first_from any_of
  first_from_some [] m n e = cc
  first_from_some (x ∷ l) m n e = go (test x) e (first_from_some l (m + 1) n)
    where
      go : (t : Bool) → cond t (Some m) (first_from test l (m + 1)) ≡ Some n
          → (first_from test l (m + 1) ≡ Some n → (any_of test l ≡ true) × (n < m + 1 + length l)) → ((t || any_of test l) ≡ true) × (n < m + length (x ∷ l))
      go true f later = let is : m ≡ n = cc in (refl, omega arith)
      go false f later = ((later f).0, omega (arith, (later f).1))

-- tests of circuits by their numbers, of which n are left from number m on
module _ (cs : List Circuit) where
  pub list_any-numbers : (test : Circuit → Bool) (n m : ℕ) → m + n ≡ length cs
      → list_any (λ i. test (get_or cs i no_circuit)) (range_with_len m n) ≡ any_of test (drop m cs)
  unfolding any_of
  list_any-numbers test zero m e =
      let end : length cs ≤ m = omega arith in
      rw (drop_of_length-le cs end)
  list_any-numbers test (suc n) m e =
      let inside : m < length cs = omega arith in
      rw (drop_next cs m no_circuit inside, list_any-numbers test n (m + 1) (omega arith))

  pub list_any-alike : (n m : ℕ) → m + n ≡ length cs
      → list_any (λ i. any_of (alike (get_or cs i no_circuit)) (drop (i + 1) cs)) (range_with_len m n) ≡ two_alike (drop m cs)
  unfolding two_alike
  list_any-alike zero m e =
      let end : length cs ≤ m = omega arith in
      rw (drop_of_length-le cs end)
  list_any-alike (suc n) m e =
      let inside : m < length cs = omega arith in
      rw (drop_next cs m no_circuit inside, list_any-alike n (m + 1) (omega arith))

  position-numbers : (test : Circuit → Bool) (n m : ℕ) → m + n ≡ length cs
      → (let p : ℕ = position_or_len (λ i. test (get_or cs i no_circuit)) (range_with_len m n) in
      cond (ltb p (length (range_with_len m n))) (Some (m + p)) None) ≡ first_from test (drop m cs) m
  unfolding first_from
  position-numbers test zero m e =
      let end : length cs ≤ m = omega arith in
      rw (drop_of_length-le cs end)
  position-numbers test (suc n) m e =
      let inside : m < length cs = omega arith in
      rw (drop_next cs m no_circuit inside) (go (test (get_or cs m no_circuit)) (position-numbers test n (m + 1) (omega arith)))
    where
      later : (q l : ℕ) (t : Bool) → ltb q l ≡ t → cond (ltb (1 + q) (suc l)) (Some (m + (1 + q))) None ≡ cond t (Some (m + 1 + q)) None
      later q l true e =
          let h : q < l = ltb-true q l e in
          let same : m + (1 + q) ≡ m + 1 + q = omega arith in
          rw (lt-ltb (1 + q) (suc l) (omega arith), same)
      later q l false e =
          let h : l ≤ q = ltb-false q l e in
          rw (le-ltb (1 + q) (suc l) (omega arith))

      go : (t : Bool) → (let p : ℕ = position_or_len (λ i. test (get_or cs i no_circuit)) (range_with_len (m + 1) n) in
          cond (ltb p (length (range_with_len (m + 1) n))) (Some (m + 1 + p)) None) ≡ first_from test (drop (m + 1) cs) (m + 1)
          → (let p : ℕ = cond (not t) (1 + position_or_len (λ i. test (get_or cs i no_circuit)) (range_with_len (m + 1) n)) 0 in
          cond (ltb p (length (m ∷ range_with_len (m + 1) n))) (Some (m + p)) None) ≡ cond t (Some m) (first_from test (drop (m + 1) cs) (m + 1))
      go true h =
          let same : m + 0 ≡ m = omega arith in
          rw (lt-ltb 0 (length (m ∷ range_with_len (m + 1) n)) (omega arith), same)
      go false h = later _ _ _ refl ∙ h

  pub position-from_first : (test : Circuit → Bool) (n : ℕ) → n ≡ length cs
      → (let p : ℕ = position_or_len (λ i. test (get_or cs i no_circuit)) (range_with_len 0 n) in
      cond (ltb p (length (range_with_len 0 n))) (Some p) None) ≡ first_from test cs 0
  position-from_first test n e =
      let p : ℕ = position_or_len (λ i. test (get_or cs i no_circuit)) (range_with_len 0 n) in
      let same : 0 + p ≡ p = omega arith in
      rw same at (position-numbers test n 0 (omega arith))

-- ---- the circuits of bytes, three bytes to a circuit

-- the first i
pub circuits_of-take : (i : ℕ) (bs : List ℕ) → circuits_of (take (3 * i) bs) ≡ take i (circuits_of bs)
unfolding circuits_of
circuits_of-take zero bs = refl
circuits_of-take (suc i) [] = rw (take_all {A = ℕ} (3 * suc i) [] (omega arith))
circuits_of-take (suc i) (a ∷ []) = rw (take_all (3 * suc i) (a ∷ []) (omega arith))
circuits_of-take (suc i) (a ∷ e ∷ []) = rw (take_all (3 * suc i) (a ∷ e ∷ []) (omega arith))
circuits_of-take (suc i) (a ∷ e ∷ x ∷ bs) =
    let three : 3 * suc i ≡ suc (suc (suc (3 * i))) = omega arith in
    rw (three, circuits_of-take i bs)

-- the circuit with number i
pub circuits_of_at : (bs : List ℕ) (i : ℕ) → 3 * i + 3 ≤ length bs
    → record { address = get_or bs (3 * i) 0; extended = get_or bs (3 * i + 1) 0; extension = get_or bs (3 * i + 2) 0 } ≡ get_or (circuits_of bs) i no_circuit
unfolding circuits_of
circuits_of_at [] i h = absurd (omega arith)
circuits_of_at (a ∷ []) i h = absurd (omega arith)
circuits_of_at (a ∷ e ∷ []) i h = absurd (omega arith)
circuits_of_at (a ∷ e ∷ x ∷ bs) zero h = refl
circuits_of_at (a ∷ e ∷ x ∷ bs) (suc i) h =
    let address : 3 * suc i ≡ suc (suc (suc (3 * i))) = omega arith in
    let extended : 3 * suc i + 1 ≡ suc (suc (suc (3 * i + 1))) = omega arith in
    let extension : 3 * suc i + 2 ≡ suc (suc (suc (3 * i + 2))) = omega arith in
    rw (extended, extension, address) (circuits_of_at bs i (omega arith))

-- the number of circuits of bytes
pub length-circuits_of : (bs : List ℕ) → (3 * length (circuits_of bs) ≤ length bs) × (length bs ≤ 3 * length (circuits_of bs) + 2)
unfolding circuits_of
length-circuits_of [] = omega arith
length-circuits_of (a ∷ []) = omega arith
length-circuits_of (a ∷ e ∷ []) = omega arith
length-circuits_of (a ∷ e ∷ x ∷ bs) = omega (arith, length-circuits_of bs)

-- four circuits, one by one; those of them that are listed, from the bytes of all four
pub four_circuits : (l : List Circuit) → length l ≡ 4 → get_or l 0 no_circuit ∷ get_or l 1 no_circuit ∷ get_or l 2 no_circuit ∷ get_or l 3 no_circuit ∷ [] ≡ l
four_circuits [] h = absurd (omega arith)
four_circuits (a ∷ []) h = absurd (omega arith)
four_circuits (a ∷ b ∷ []) h = absurd (omega arith)
four_circuits (a ∷ b ∷ c ∷ []) h = absurd (omega arith)
four_circuits (a ∷ b ∷ c ∷ d ∷ []) h = refl
four_circuits (a ∷ b ∷ c ∷ d ∷ e ∷ l) h = absurd (omega arith)

pub circuits_of-listed : (cs : Circuits) (bs : List ℕ) (n : ℕ) → length cs.list ≡ 4 → circuits_of bs ≡ cs.list → n ≡ 3 * min cs.count 4
    → circuits_of (take n bs) ≡ listed cs
unfolding listed
circuits_of-listed cs bs n four e count =
    rw (count, circuits_of-take (min cs.count 4) bs, e, ← four) (take_min cs.count cs.list)

-- circuits stored in turn over four empty places are the record of them
record_of-list : (cs : List Circuit) → length cs ≤ 4 → sets (replicate 4 no_circuit) 0 cs ≡ (record_of cs).list
unfolding record_of
record_of-list [] h = refl
record_of-list (a ∷ []) h = refl
record_of-list (a ∷ b ∷ []) h = refl
record_of-list (a ∷ b ∷ c ∷ []) h = refl
record_of-list (a ∷ b ∷ c ∷ d ∷ []) h = refl
record_of-list (a ∷ b ∷ c ∷ d ∷ e ∷ cs) h = absurd (omega arith)

-- the first i circuits are stored in a list's first i places: storing those that are left there gives all of them
abbrev pub Stored : List Circuit → List Circuit → ℕ → Type 0
Stored cs list i = (i ≤ length cs) × (sets list i (drop i cs) ≡ sets (replicate 4 no_circuit) 0 cs)

-- one more is stored, and at the end the list is the record's
sets_cons : (l : List Circuit) (i : ℕ) (a : Circuit) (rest : List Circuit) → sets (set l i a) (i + 1) rest ≡ sets l i (a ∷ rest)
sets_cons l i a rest = rw (add-one i)

pub Stored_next : (cs list : List Circuit) (i : ℕ) → i < length cs → Stored cs list i → Stored cs (set list i (get_or cs i no_circuit)) (i + 1)
Stored_next cs list i h stored =
    (omega arith, sets_cons list i _ (drop (i + 1) cs) ∙ rw (drop_next cs i no_circuit h) at stored.1)

circuits_eq : (m n : ℕ) (a b : List Circuit) → m ≡ n → a ≡ b
    → ◌≡◌ {A = Circuits} (record { count = m; list = a }) (record { count = n; list = b })
circuits_eq m n a b p q = cc

pub Stored_end : (cs list : List Circuit) (i : ℕ) → length cs ≤ 4 → length cs ≤ i → Stored cs list i → record { count = i; list = list } ≡ record_of cs
unfolding record_of
Stored_end cs list i few end stored =
    let all : i ≡ length cs = omega arith in
    let same : list ≡ sets (replicate 4 no_circuit) 0 cs = rw (drop_of_length-le cs end) at stored.1 in
    circuits_eq i (length cs) list (record_of cs).list all (same ∙ record_of-list cs few)

-- ---- circuits that are alike

-- what the code's equality tests, in turn
pub alike-fields : (a b : Circuit) → alike a b ≡ (eqb a.address b.address && (eqb a.extended b.extended && eqb a.extension b.extension))
unfolding alike
alike-fields a b = go (eqb a.address b.address) (eqb a.extended b.extended)
  where
    go : (s t : Bool) → (s && t && eqb a.extension b.extension) ≡ (s && (t && eqb a.extension b.extension))
    go true t = refl
    go false t = refl

pub alike_is : (a b : Circuit) → alike a b ≡ true → a ≡ b
unfolding alike
alike_is a b e =
    let (f, z) = (and-eq-true_iff (eqb a.address b.address && eqb a.extended b.extended) _).0 e in
    let (x, y) = (and-eq-true_iff (eqb a.address b.address) _).0 f in
    let address : a.address ≡ b.address = eqb-true _ _ x in
    let extended : a.extended ≡ b.extended = eqb-true _ _ y in
    let extension : a.extension ≡ b.extension = eqb-true _ _ z in
    λ i. record { address = address i; extended = extended i; extension = extension i }

pub alike_self : (c : Circuit) → alike c c ≡ true
unfolding alike
alike_self c = rw (eq-eqb c.address c.address refl, eq-eqb c.extended c.extended refl, eq-eqb c.extension c.extension refl)

alike-swap : (a b : Circuit) → alike a b ≡ true → alike b a ≡ true
alike-swap a b e = rw (alike_is a b e) (alike_self b)

alike_comm : (a b : Circuit) → alike a b ≡ alike b a
alike_comm a b = go (alike a b) (alike b a) refl refl
  where
    go : (s t : Bool) → alike a b ≡ s → alike b a ≡ t → s ≡ t
    go true true e f = refl
    go true false e f = sym (alike-swap a b e) ∙ f
    go false true e f = sym e ∙ alike-swap b a f
    go false false e f = refl

-- the refusals 2, 3 and 4 of circuits that are accepted
pub circuits_refusal-zero : (cs : List Circuit) → circuits_refusal cs ≡ 0
    → (any_of address_ff cs ≡ false) × (any_of wrong_extension cs ≡ false) × (two_alike cs ≡ false)
unfolding circuits_refusal
circuits_refusal-zero cs e = go (any_of address_ff cs) (any_of wrong_extension cs) (two_alike cs) e
  where
    go : (a b c : Bool) → ◌≡◌ {A = ℕ} (cond a 2 (cond b 3 (cond c 4 0))) 0 → (a ≡ false) × (b ≡ false) × (c ≡ false)
    go true b c h = absurd (omega arith)
    go false true c h = absurd (omega arith)
    go false false true h = absurd (omega arith)
    go false false false h = (refl, refl, refl)

-- a circuit of circuits that pass no test does not pass it
pub any_of-none : (test : Circuit → Bool) (cs : List Circuit) (i : ℕ) → i < length cs → any_of test cs ≡ false
    → test (get_or cs i no_circuit) ≡ false
unfolding any_of
any_of-none test [] i h e = absurd (omega arith)
any_of-none test (c ∷ cs) zero h e = or_left (test c) (any_of test cs) e
any_of-none test (c ∷ cs) (suc i) h e = any_of-none test cs i (omega arith) (or_right (test c) (any_of test cs) e)

-- a listed circuit of an accepted record has an extension or none
wrong_extension_lt : (c : Circuit) → wrong_extension c ≡ false → c.extended < 2
unfolding wrong_extension
wrong_extension_lt c e =
    let le : c.extended ≤ 1 = ltb-false 1 c.extended (or_left (ltb 1 c.extended) _ e) in
    omega arith

pub circuits_refusal-extended : (cs : Circuits) (i : ℕ) → i < cs.count → i < length cs.list → circuits_refusal (listed cs) ≡ 0
    → (get_or cs.list i no_circuit).extended < 2
unfolding listed
circuits_refusal-extended cs i below inside e =
    let short : i < length (take cs.count cs.list) = rw length-take (omega arith) in
    let right = any_of-none wrong_extension (take cs.count cs.list) i short (circuits_refusal-zero (take cs.count cs.list) e).1 in
    wrong_extension_lt (get_or cs.list i no_circuit) (rw (get_or-take cs.count cs.list i no_circuit below) at right)

-- an accepted list has one to four circuits
pub wrong_length-false : (n : ℕ) → wrong_length n ≡ false → (3 ≤ n) × (n ≤ 12)
unfolding wrong_length
wrong_length-false n = go (eqb n 3) (eqb n 6) (eqb n 9) (eqb n 12) refl refl refl refl
  where
    go : (a b c d : Bool) → eqb n 3 ≡ a → eqb n 6 ≡ b → eqb n 9 ≡ c → eqb n 12 ≡ d → not (a || b || c || d) ≡ false → (3 ≤ n) × (n ≤ 12)
    go true b c d p q r s e = let is : n ≡ 3 = eqb-true n 3 p in omega arith
    go false true c d p q r s e = let is : n ≡ 6 = eqb-true n 6 q in omega arith
    go false false true d p q r s e = let is : n ≡ 9 = eqb-true n 9 r in omega arith
    go false false false true p q r s e = let is : n ≡ 12 = eqb-true n 12 s in omega arith
    go false false false false p q r s e = absurd (let z : ◌≡◌ {A = ℕ} 0 1 = cc in omega arith)

list_refusal-zero : (bs : List ℕ) → list_refusal bs ≡ 0 → (wrong_length (length bs) ≡ false) × (circuits_refusal (circuits_of bs) ≡ 0)
unfolding list_refusal
list_refusal-zero bs e = go (wrong_length (length bs)) e
  where
    go : (t : Bool) → ◌≡◌ {A = ℕ} (cond t 1 (circuits_refusal (circuits_of bs))) 0 → (t ≡ false) × (circuits_refusal (circuits_of bs) ≡ 0)
    go true h = absurd (omega arith)
    go false h = (refl, h)

pub list_refusal-length : (bs : List ℕ) → list_refusal bs ≡ 0 → (1 ≤ length (circuits_of bs)) × (length (circuits_of bs) ≤ 4)
list_refusal-length bs e =
    omega (arith, length-circuits_of bs, wrong_length-false (length bs) (list_refusal-zero bs e).0)

-- the circuits of the record of at most four circuits are these
pub listed-record_of : (cs : List Circuit) → length cs ≤ 4 → listed (record_of cs) ≡ cs
unfolding listed record_of
listed-record_of cs h = rw (take-take (length cs) 4 (cs ++ replicate 4 no_circuit) h) (take-append_seam cs (replicate 4 no_circuit))

-- a listing has the list's circuits if it accepts it; it has at most four, and none that listing refuses
listing-accepted : (bs : List ℕ) → list_refusal bs ≡ 0 → listing bs ≡ record_of (circuits_of bs)
unfolding listing
listing-accepted bs e = rw e

listing_refused : (bs : List ℕ) → (list_refusal bs ≡ 0 → ⊥) → listing bs ≡ record_of []
unfolding listing
listing_refused bs e = rw (ne_eqb (list_refusal bs) 0 e)

pub listed-listing : (bs : List ℕ) → list_refusal bs ≡ 0 → listed (listing bs) ≡ circuits_of bs
listed-listing bs e = rw (listing-accepted bs e) (listed-record_of (circuits_of bs) (list_refusal-length bs e).1)

-- what holds of the record of an accepted list, and of that of no circuits
pub listing_either : (P : Circuits → Type 0) (bs : List ℕ) → (list_refusal bs ≡ 0 → P (record_of (circuits_of bs))) → P (record_of []) → P (listing bs)
listing_either P bs accepted refused = go (eqb (list_refusal bs) 0) refl
  where
    go : (t : Bool) → eqb (list_refusal bs) 0 ≡ t → P (listing bs)
    go true e =
        let is : list_refusal bs ≡ 0 = eqb-true (list_refusal bs) 0 e in
        rw (listing-accepted bs is) (accepted is)
    go false e = rw (listing_refused bs (eqb-false (list_refusal bs) 0 e)) refused

pub listing-count : (bs : List ℕ) → (listing bs).count ≤ 4
unfolding record_of
listing-count bs = listing_either (λ cs. cs.count ≤ 4) bs (λ e. (list_refusal-length bs e).1) (omega arith)

pub listing-refusal : (bs : List ℕ) → circuits_refusal (listed (listing bs)) ≡ 0
unfolding listed record_of circuits_refusal any_of two_alike
listing-refusal bs = listing_either (λ cs. circuits_refusal (listed cs) ≡ 0) bs
    (λ e. rw (listed-record_of (circuits_of bs) (list_refusal-length bs e).1) (list_refusal-zero bs e).1) refl

-- a circuit's number, where one is found, is a listed circuit's
pub number_lt : (cs : Circuits) (c : Circuit) (n : ℕ) → number_from (listed cs) c 0 ≡ Some n → n < cs.count
unfolding listed number_from
number_lt cs c n e =
    let h = (first_from_some (λ d. alike d c) (take cs.count cs.list) 0 n e).1 in
    let l : length (take cs.count cs.list) ≡ min cs.count (length cs.list) = length-take cs.count cs.list in
    omega arith
