-- The heart: a walk of one table stops at the first fault of the entries that are read, whatever the faults of one entry are.
-- Assumes nothing.
use Prim.Native.Nat.{ℕ, zero, suc, ◌+◌, ◌≤◌, ◌<◌}
use native.Mathlib.Omega.{arith}
use mathlib.Core.Path.{◌≡◌, refl, sym, ◌∙◌}
use mathlib.Core.Bool.{Bool, true, false, not}
use mathlib.Core.Logic.{◌⊎◌, inl, inr, ⊎_elim}
use mathlib.Core.List.{List, [], ◌∷◌}
use lib.Dec.{ltb}
use borrow.Author.Tests.{ltb-true, ltb-false}
use Rattle.lists.specs.Rows.{choose}
use Rattle.areas.proofs.Tests.{lt_or_ge, clash}
use Rattle.mapping.specs.Mapped.{Mapped}
use Rattle.chains.specs.declared.Next.{Next}
use Rattle.chains.specs.declared.Next.TheVariants.{Last, At, Bad}
use Rattle.chains.specs.Slots.{capped, Slots, first_from, following, onward, path, Link}
use Rattle.chains.proofs.Scan.{Scanned, first_says}
use Rattle.chains.proofs.Way.{led, ends}
use Rattle.tables.specs.Fault.{Fault}
use Rattle.tables.specs.Restored.{Out, fault, found, and_then, run, walk}
use Rattle.faults.specs.FaultAt.{Ahead, BadNext, Earlier}
use Rattle.faults.proofs.Judge.{Judged, seq, same}
use Rattle.faults.proofs.Along.{Complete, ahead_inside, ahead_valid, no_link, link_same, onwards, alike, bad_is, bad_says}

-- what a visit is told of its entry's next, and as a test
abbrev pub Told : Slots → ℕ → Bool → Type 0
Told T i true = BadNext T i → ⊥
Told T i false = BadNext T i

pub told_bad : {T : Slots} {i : ℕ} (b : Bool) → Told T i b → not b ≡ true → BadNext T i
told_bad true t e = absurd (clash e refl)
told_bad false t e = t

pub bad_told : {T : Slots} {i : ℕ} (b : Bool) → Told T i b → BadNext T i → not b ≡ true
bad_told true t x = absurd (t x)
bad_told false t x = refl

-- the faults of one entry, with the IDs ahead of it; those of the entries that are read, and of these from i on
abbrev pub Faults : Type 1
Faults = List ℕ → ℕ → Fault → Type 0

abbrev pub Met : Slots → Faults → Fault → Type 0
Met T There g = (js : List ℕ) × (j : ℕ) × Ahead T js j × There js j g

abbrev From : Slots → Faults → ℕ → Fault → Type 0
From T There i g = (js : List ℕ) × (j : ℕ) × Ahead T js j × There js j g × (i ≤ j)

-- every entry was read
abbrev pub Through : Slots → (List ℕ → Mapped → Type 0) → Mapped → Type 0
Through T Inv h = (ids : List ℕ) × Complete T ids × Inv ids h

-- one visit, given what was read before it
abbrev pub Visits : Slots → (Bool → ℕ → Mapped → Out) → Faults → (List ℕ → Mapped → Type 0) → Type 0
Visits T v There Inv = (ids : List ℕ) (i : ℕ) (k : Mapped) (b : Bool) → Inv ids k → Told T i b
    → Judged (There ids i) (λ h. (b ≡ true) × Inv (i ∷ ids) h) (v b i k)

-- faults at entries are ordered as the entries are
abbrev pub Ordered : Faults → Type 0
Ordered There = (js is : List ℕ) (j i : ℕ) (g f : Fault) → There js j g → There is i f → Earlier g f → j ≤ i

module _ (T : Slots) (pos : 0 < capped T.cap 1) (small : (i : ℕ) → capped T.cap (T.next i) ≡ T.next i) (v : Bool → ℕ → Mapped → Out)
    (There : Faults) (Inv : List ℕ → Mapped → Type 0) (ordered : Ordered There) (visit : Visits T v There Inv) where
  -- here, or from where this entry leads to
  split : (ids : List ℕ) (i : ℕ) → Ahead T ids i → (g : Fault) → From T There i g → There ids i g ⊎ ((z : ℕ) × Link T i z × From T There z g)
  split ids i a g f =
      let js = f.0 in
      let j = f.1 in
      ⊎_elim
      (λ (l : i < j). let o = onwards T pos ids js i j a f.2 l in inr (o.0, o.1, (js, j, f.2, f.3, o.2)))
      (λ (l : j ≤ i).
      let e : j ≡ i = omega (arith, f.4) in
      let b : Ahead T js i = rw e at f.2 in
      let x : js ≡ ids = alike T pos js ids i b a in
      inl (rw (x, e) at f.3))
      (lt_or_ge i j)

  module _ (ids : List ℕ) (i : ℕ) (a : Ahead T ids i) where
    -- after a visit that was told this
    abbrev Visited : Bool → Mapped → Type 0
    Visited b h = (b ≡ true) × Inv (i ∷ ids) h

    -- a bad next: the visit meets a fault
    stops : (o : Out) → Judged (There ids i) (Visited false) o → Judged (From T There i) (Through T Inv) o
    stops (fault f) j = record {
      there = (ids, i, a, j.there, omega arith);
      none = λ g b p. ⊎_elim
          (λ t. j.none g b t)
          (λ s. let n = s.1.rises in let q = s.2 in let u = ordered q.0 ids q.1 i g f q.3 j.there b in omega (arith, q.4))
          (split ids i a g p);
    }
    stops (found h) j = absurd (clash j.1.0 refl)

    -- the last entry
    lasts : T.next i ≡ 0 → (o : Out) → Judged (There ids i) (Visited true) o → Judged (From T There i) (Through T Inv) o
    lasts e o j =
        same (There ids i) (From T There i) (Visited true) (Through T Inv)
        (λ g t. (ids, i, a, t, omega arith))
        (λ g p. ⊎_elim
        (λ t. t)
        (λ s. absurd (no_link T pos i s.0 e s.1))
        (split ids i a g p))
        (λ h q. (i ∷ ids, (a, e), q.1))
        o j

    -- an entry that leads on
    leads_on : (j : ℕ) → Link T i j → (o : Out) (rest : Mapped → Out) → Judged (There ids i) (Visited true) o
        → ((h : Mapped) → Inv (i ∷ ids) h → Judged (From T There j) (Through T Inv) (rest h)) → Judged (From T There i) (Through T Inv) (and_then o rest)
    leads_on j l o rest p r =
        let up = l.rises in
        seq (From T There i) (There ids i) (From T There j) (Visited true) (Through T Inv)
        (λ g t. (ids, i, a, t, omega arith))
        (λ g q. (q.0, q.1, q.2, q.3, omega (arith, q.4)))
        (λ g q. ⊎_elim (λ t. inl t) (λ s. let e = link_same T pos i s.0 j s.1 l in inr (rw e at s.2)) (split ids i a g q))
        (λ f g t q b. let u = ordered q.0 ids q.1 i g f q.3 t b in omega (arith, q.4))
        o rest p (λ h q. r h q.1)

  run_judged : (fuel : ℕ) (ids : List ℕ) (i : ℕ) (k : Mapped) → T.size ≤ i + fuel → Ahead T ids i → Inv ids k
      → Judged (From T There i) (Through T Inv) (run v (path T fuel i) k)
  unfolding run path
  run_judged zero ids i k f a inv = absurd (omega (arith, ahead_inside T ids i a))
  run_judged (suc fuel) ids i k f a inv = by (following T i) refl (λ j h l q. run_judged fuel (i ∷ ids) j h (omega (arith, l.rises)) (a, l) q)
    where
      good : (n : Next) → following T i ≡ n → (n ≡ Bad → ⊥) → Told T i true
      good n e x b = x (sym e ∙ bad_is T i b)

      by : (n : Next) → following T i ≡ n
          → ((j : ℕ) (h : Mapped) → Link T i j → Inv (i ∷ ids) h → Judged (From T There j) (Through T Inv) (run v (path T fuel j) h))
          → Judged (From T There i) (Through T Inv) (run v (onward i (path T fuel) n) k)
      by Last e ih = lasts ids i a (ends T pos i e) (v true i k)
          (visit ids i k true inv (good Last e (λ p. let z : ◌≡◌ {A = ℕ} 0 1 = cc in omega arith)))
      by Bad e ih = stops ids i a (v false i k) (visit ids i k false inv (bad_says T i e))
      by (At j) e ih =
          let l = led T pos i j (small i) e in
          leads_on ids i a j l (v true i k) (run v (path T fuel j))
          (visit ids i k true inv (good (At j) e (λ p. let z : ◌≡◌ {A = ℕ} 0 1 = cc in omega arith)))
          (λ h q. ih j h l q)

  -- a whole table
  pub walk_judged : (k : Mapped) → Inv [] k → Judged (Met T There) (Through T Inv) (walk T v k)
  unfolding walk
  walk_judged k inv = by (ltb (first_from T 0) T.size) refl
    where
      scan : Scanned T.valid 0 T.size (first_from T 0)
      scan = first_says T 0 (omega arith)

      by : (b : Bool) → ltb (first_from T 0) T.size ≡ b
          → Judged (Met T There) (Through T Inv) (choose b (run v (path T T.size (first_from T 0)) k) (found k))
      by true e =
          let i = first_from T 0 in
          let l : i < T.size = ltb-true i T.size e in
          let s = scan in
          same (From T There i) (Met T There) (Through T Inv) (Through T Inv)
          (λ g q. (q.0, q.1, q.2, q.3))
          (λ g q. ⊎_elim
          (λ (x : q.1 < i). absurd (clash (ahead_valid T q.0 q.1 q.2) (s.before q.1 (omega arith) x)))
          (λ (x : i ≤ q.1). (q.0, q.1, q.2, q.3, x))
          (lt_or_ge q.1 i))
          (λ h q. q)
          (run v (path T T.size i) k)
          (run_judged T.size [] i k (omega arith) (record { below = s.before; inside = l; valid = s.hit l }) inv)
      by false e =
          let l = ltb-false (first_from T 0) T.size e in
          let s = scan in (
            λ g q. clash (ahead_valid T q.0 q.1 q.2) (s.before q.1 (omega arith) (omega (arith, ahead_inside T q.0 q.1 q.2))),
            ([], λ x y z. s.before x y (omega arith), inv),
          )
