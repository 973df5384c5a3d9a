-- A walk of a table visits exactly the chained IDs, in order.
use Prim.Native.Nat.{ℕ, zero, suc, ◌≤◌, ◌<◌}
use native.Mathlib.Omega.{arith}
use mathlib.Core.Path.{◌≡◌, refl, sym, ap, ◌∙◌, fun_ext}
use mathlib.Core.Bool.{Bool, true, false}
use mathlib.Core.Logic.{⊎_elim}
use mathlib.Core.List.{List, [], ◌∷◌}
use lib.Dec.{ltb}
use borrow.Author.Tests.{lt-ltb, le-ltb, ltb-true, ltb-false}
use Rattle.lists.proofs.All.{All, none, more}
use Rattle.mapping.specs.Mapped.{Mapped, rising}
use Rattle.chains.specs.declared.Next.{Next}
use Rattle.chains.specs.declared.Next.TheVariants.{Last, At, Bad}
use Rattle.chains.specs.Slots.{Slots, capped, first_from, following, onto, onward, path, whole, Links}
use Rattle.chains.proofs.Scan.{Scanned, first_says, found_at, found_none}
use Rattle.chains.proofs.Way.{choose-cases}
use Rattle.chains.proofs.Chained.{path_is, path_says}
use Rattle.described.specs.Described.{Chain}
use Rattle.tables.specs.Restored.{Out, fault, found, and_then, run, walk}
use Rattle.lists.proofs.Member.{all_weaker}
use Rattle.mapping.proofs.Rise.{rising_more, rising_nil}
use Rattle.described.proofs.Tried.{no_fault}

-- one step and the rest
pub then_says : (o : Out) (f : Mapped → Out) (k : Mapped) → and_then o f ≡ found k → (h : Mapped) × (o ≡ found h) × (f h ≡ found k)
then_says (fault x) f k p = no_fault p
then_says (found h) f k p = (h, refl, p)

then_found : (o : Out) → and_then o found ≡ o
then_found (fault x) = refl
then_found (found k) = refl

-- visits one after the other
abbrev pub visits : (ℕ → Mapped → Out) → List ℕ → Mapped → Out
visits v [] k = found k
visits v (i ∷ is) k = and_then (v i k) (visits v is)

-- along a whole path every next is good
run_whole : (v : Bool → ℕ → Mapped → Out) (i : ℕ) (js : List ℕ) (k : Mapped) → run v (whole i js) k ≡ visits (v true) (i ∷ js) k
unfolding run
run_whole v i [] k = sym (then_found (v true i k))
run_whole v i (j ∷ js) k = ap (and_then (v true i k)) (fun_ext (λ h. run_whole v j js h))

-- a visit that is told of a bad next finds nothing
abbrev pub Stops : (Bool → ℕ → Mapped → Out) → Type 0
Stops v = (i : ℕ) (k h : Mapped) → v false i k ≡ found h → ⊥

module _ (T : Slots) (v : Bool → ℕ → Mapped → Out) where
  -- a run that ends well is along a path that does
  ends_well : Stops v → (fuel i : ℕ) (k h : Mapped) → run v (path T fuel i) k ≡ found h → (js : List ℕ) × (path T fuel i ≡ whole i js)
  unfolding run path
  ends_well stops zero i k h p = absurd (stops i k h p)
  ends_well stops (suc fuel) i k h p = by (following T i) (λ j k' q. ends_well stops fuel j k' h q) p
    where
      by : (n : Next) → ((j : ℕ) (k' : Mapped) → run v (path T fuel j) k' ≡ found h → (js : List ℕ) × (path T fuel j ≡ whole j js))
          → run v (onward i (path T fuel) n) k ≡ found h → (js : List ℕ) × (onward i (path T fuel) n ≡ whole i js)
      by Last ih q = ([], refl)
      by Bad ih q = absurd (stops i k h q)
      by (At j) ih q =
          let s = then_says (v true i k) (run v (path T fuel j)) h q in
          let r = ih j s.0 s.2 in
          (j ∷ r.0, ap (onto i) r.1)

  module _ (pos : 0 < capped T.cap 1) where
    -- a table that chains the IDs is walked along them
    pub walk_is : (ids : List ℕ) (k : Mapped) → Chain T ids → walk T v k ≡ visits (v true) ids k
    unfolding walk
    walk_is [] k c = rw (found_none T 0 (omega arith) c.below, le-ltb T.size T.size (omega arith))
    walk_is (i ∷ js) k c =
        let l = c.links in
        let h : i < T.size = l.0 in
        rw (found_at T 0 i (omega arith) h c.below l.1, lt-ltb i T.size h, path_is T pos js T.size i h (omega arith) l.2)
        (run_whole v i js k)

    -- a walk that ends well is along chained IDs
    pub walk_says : Stops v → ((i : ℕ) → capped T.cap (T.next i) ≡ T.next i) → (k h : Mapped) → walk T v k ≡ found h
        → (ids : List ℕ) × Chain T ids × (visits (v true) ids k ≡ found h)
    unfolding walk
    walk_says stops small k h p =
        let f = first_from T 0 in
        let s : Scanned T.valid 0 T.size f = first_says T 0 (omega arith) in
        ⊎_elim
        (λ q.
        let l : f < T.size = ltb-true f T.size q.0 in
        let w = ends_well stops T.size f k h q.1 in
        let js = w.0 in
        let c : Chain T (f ∷ js) = record { below = s.before; links = (l, s.hit l, path_says T pos small T.size f js w.1) } in
        let r : run v (whole f js) k ≡ found h = rw w.1 at q.1 in
        (f ∷ js, c, sym (run_whole v f js k) ∙ r))
        (λ q.
        let l : T.size ≤ f = ltb-false f T.size q.0 in
        let e : f ≡ T.size = omega (arith, s.upto) in
        let c : Chain T [] = record { below = rw e at s.before; links = tt } in
        ([], c, q.1))
        (choose-cases (ltb f T.size) p)

-- the chained IDs are in the table, and rise
abbrev pub Below : ℕ → List ℕ → Type 0
Below n ids = All (λ i. i < n) ids

module _ (T : Slots) where
  links_inside : (i : ℕ) (js : List ℕ) → Links T i js → Below T.size js
  links_inside i [] l = none
  links_inside i (j ∷ js) l = more l.0.inside (links_inside j js l.1)

  links_above : (i : ℕ) (js : List ℕ) → Links T i js → All (λ j. i < j) js
  links_above i [] l = none
  links_above i (j ∷ js) l = let r = l.0.rises in more r (all_weaker (λ x p. omega arith) js (links_above j js l.1))

  links_rise : (i : ℕ) (js : List ℕ) → Links T i js → rising (λ (n : ℕ). n) (i ∷ js) ≡ true
  links_rise i [] l = rising_more (λ n. n) i [] none (rising_nil (λ n. n))
  links_rise i (j ∷ js) l = rising_more (λ n. n) i (j ∷ js) (links_above i (j ∷ js) l) (links_rise j js l.1)

  pub chain_inside : (ids : List ℕ) → Chain T ids → Below T.size ids
  chain_inside [] c = none
  chain_inside (i ∷ js) c = more c.links.0 (links_inside i js c.links.2)

  pub chain_rise : (ids : List ℕ) → Chain T ids → rising (λ (n : ℕ). n) ids ≡ true
  chain_rise [] c = rising_nil (λ n. n)
  chain_rise (i ∷ js) c = links_rise i js c.links.2
