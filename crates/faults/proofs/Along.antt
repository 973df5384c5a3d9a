-- The entries that are read, one after the other: at most one way leads to each, and none is passed by. Assumes nothing.
use Prim.Native.Nat.{ℕ, suc, ◌+◌, ◌≤◌, ◌<◌}
use native.Mathlib.Omega.{arith}
use mathlib.Core.Path.{◌≡◌, refl, sym, ◌∙◌}
use mathlib.Core.Bool.{true}
use mathlib.Core.Logic.{⊎_elim}
use mathlib.Core.List.{List, [], ◌∷◌}
use lib.ListN.{length}
use lib.Dec.{ltb, leb, eqb}
use borrow.Author.Tests.{le-ltb, ltb-false, leb-true, leb-false, eqb-false}
use Rattle.areas.proofs.Tests.{lt_or_ge, clash}
use Rattle.chains.specs.declared.Next.TheVariants.{Last, At, Bad}
use Rattle.chains.specs.Slots.{capped, exact, Slots, first_from, following, Blank, Link, Links}
use Rattle.chains.proofs.Scan.{Scanned, first_says, found_none}
use Rattle.chains.proofs.Way.{choose-cases, leads, ended, way_out, way_near, way_far}
use Rattle.chains.proofs.Chained.{links_unique}
use Rattle.described.specs.Described.{Chain}
use Rattle.faults.specs.FaultAt.{First, Ahead, BadNext, leaves, blank, lost}

no_next : {B : Type 0} {i : ℕ} → At i ≡ Bad → B
no_next p = let z : ◌≡◌ {A = ℕ} 0 1 = cc in absurd (omega arith)

no_last : {B : Type 0} → Last ≡ Bad → B
no_last p = let z : ◌≡◌ {A = ℕ} 0 1 = cc in absurd (omega arith)

-- all entries that are read, the latest first
abbrev pub Complete : Slots → List ℕ → Type 0
Complete T [] = Blank T 0 T.size
Complete T (x ∷ xs) = Ahead T xs x × (T.next x ≡ 0)

module _ (T : Slots) where
  pub ahead_inside : (ids : List ℕ) (i : ℕ) → Ahead T ids i → i < T.size
  ahead_inside [] i a = a.inside
  ahead_inside (x ∷ xs) i a = a.1.inside

  pub ahead_valid : (ids : List ℕ) (i : ℕ) → Ahead T ids i → T.valid i ≡ true
  ahead_valid [] i a = a.valid
  ahead_valid (x ∷ xs) i a = a.1.valid

  -- the IDs rising
  chained : (xs : List ℕ) (x : ℕ) (js : List ℕ) → Ahead T xs x → Links T x js → (l : List ℕ) × Chain T l × (length l ≡ suc (length xs + length js))
  chained [] x js a l = (x ∷ js, record { below = a.below; links = (a.inside, a.valid, l) }, omega arith)
  chained (y ∷ ys) x js a l = let r = chained ys y (x ∷ js) a.0 (a.1, l) in (r.0, r.1, omega (arith, r.2))

  pub complete_chain : (ids : List ℕ) → Complete T ids → (l : List ℕ) × Chain T l × (length l ≡ length ids)
  complete_chain [] c = ([], record { below = c; links = tt }, refl)
  complete_chain (x ∷ xs) c = let r = chained xs x [] c.0 c.1 in (r.0, r.1, omega (arith, r.2))

  first_same : (i j : ℕ) → First T i → First T j → i ≤ j
  first_same i j a b = ⊎_elim
      (λ (l : j < i). absurd (clash b.valid (a.below j (omega arith) l)))
      (λ (l : i ≤ j). l)
      (lt_or_ge j i)

module _ (T : Slots) (pos : 0 < capped T.cap 1) where
  pub link_same : (i j k : ℕ) → Link T i j → Link T i k → j ≡ k
  link_same i j k l n =
      let a = leads T pos i j l in
      let b = leads T pos i k n in
      cc

  pub no_link : (i j : ℕ) → T.next i ≡ 0 → Link T i j → ⊥
  no_link i j e l =
      let a = leads T pos i j l in
      let b = ended T pos i e in
      let z : ◌≡◌ {A = ℕ} 0 1 = cc in
      omega arith

  -- as many steps from the first lead to the same entry along the same IDs
  level : (ids js : List ℕ) (i j : ℕ) → Ahead T ids i → Ahead T js j → length ids ≡ length js → (ids ≡ js) × (i ≡ j)
  level [] [] i j a b e = (refl, omega (arith, first_same T i j a b, first_same T j i b a))
  level [] (y ∷ ys) i j a b e = absurd (omega arith)
  level (x ∷ xs) [] i j a b e = absurd (omega arith)
  level (x ∷ xs) (y ∷ ys) i j a b e =
      let r = level xs ys x y a.0 b.0 (omega arith) in
      let p = r.0 in
      let q = r.1 in
      let l : Link T x j = rw q b.1 in
      (cc, link_same x i j a.1 l)

  -- more steps lead on from it
  above : (js ids : List ℕ) (i j : ℕ) → Ahead T ids i → Ahead T js j → length ids < length js → (z : ℕ) × Link T i z × (z ≤ j)
  above [] ids i j a b h = absurd (omega arith)
  above (y ∷ ys) ids i j a b h = ⊎_elim
      (λ (l : length ids < length ys). let r = above ys ids i y a b.0 l in (r.0, r.1, omega (arith, r.2, b.1.rises)))
      (λ (l : length ys ≤ length ids). let r = level ids ys i y a b.0 (omega arith) in (j, rw r.1 b.1, omega arith))
      (lt_or_ge (length ids) (length ys))

  -- an entry that is read later: this one leads on, and not past it
  pub onwards : (ids js : List ℕ) (i j : ℕ) → Ahead T ids i → Ahead T js j → i < j → (z : ℕ) × Link T i z × (z ≤ j)
  onwards ids js i j a b h = ⊎_elim
      (λ (l : length ids < length js). above js ids i j a b l)
      (λ (l : length js ≤ length ids). ⊎_elim
      (λ (n : length js < length ids). let r = above ids js j i b a n in absurd (omega (arith, r.2, r.1.rises)))
      (λ (n : length ids ≤ length js). let r = level ids js i j a b (omega arith) in absurd (omega (arith, r.1)))
      (lt_or_ge (length js) (length ids)))
      (lt_or_ge (length ids) (length js))

  pub alike : (ids js : List ℕ) (i : ℕ) → Ahead T ids i → Ahead T js i → ids ≡ js
  alike ids js i a b = ⊎_elim
      (λ (l : length ids < length js). let r = above js ids i i a b l in absurd (omega (arith, r.2, r.1.rises)))
      (λ (l : length js ≤ length ids). ⊎_elim
      (λ (n : length js < length ids). let r = above ids js i i b a n in absurd (omega (arith, r.2, r.1.rises)))
      (λ (n : length ids ≤ length js). (level ids js i i a b (omega arith)).0)
      (lt_or_ge (length js) (length ids)))
      (lt_or_ge (length ids) (length js))

  -- at most one list of IDs is chained
  pub chain_unique : (l r : List ℕ) → Chain T l → Chain T r → l ≡ r
  chain_unique [] [] a b = refl
  chain_unique [] (j ∷ js) a b = absurd (clash b.links.1 (a.below j (omega arith) b.links.0))
  chain_unique (i ∷ is) [] a b = absurd (clash a.links.1 (b.below i (omega arith) a.links.0))
  chain_unique (i ∷ is) (j ∷ js) a b =
      let x = a.links in
      let y = b.links in
      let p : First T i = record { below = a.below; inside = x.0; valid = x.1 } in
      let q : First T j = record { below = b.below; inside = y.0; valid = y.1 } in
      let e : i ≡ j = omega (arith, first_same T i j p q, first_same T j i q p) in
      let l : Links T i js = rw e y.2 in
      let f = links_unique T pos i is js x.0 x.2 l in
      cc

-- a bad next, both ways
module _ (T : Slots) (i : ℕ) where
  abbrev landing : ℕ
  landing = i + T.next i

  pub bad_is : BadNext T i → following T i ≡ Bad
  bad_is (leaves s h) = sym (way_out T i (T.next i) refl (λ z. omega arith) (omega arith))
  bad_is (blank s c v) = ⊎_elim
      (λ (h : landing < T.size). sym (way_near T i (T.next i) refl (λ z. omega arith) h c) ∙ rw v)
      (λ (h : T.size ≤ landing). sym (way_out T i (T.next i) refl (λ z. omega arith) h))
      (lt_or_ge landing T.size)
  bad_is (lost s c b) = ⊎_elim
      (λ (h : landing < T.size).
      let f : first_from T landing ≡ T.size = found_none T landing (omega arith) (λ k x y. b k (omega arith) y) in
      sym (way_far T i (T.next i) refl (λ z. omega arith) h c) ∙ rw (f, le-ltb T.size T.size (omega arith)))
      (λ (h : T.size ≤ landing). sym (way_out T i (T.next i) refl (λ z. omega arith) h))
      (lt_or_ge landing T.size)

  pub bad_says : following T i ≡ Bad → BadNext T i
  unfolding following
  bad_says e = ⊎_elim
      (λ p. no_last p.1)
      (λ p.
      let n = eqb-false (T.next i) 0 p.0 in
      let some : 0 < T.next i = omega arith in
      ⊎_elim
      (λ q. leaves some (leb-true T.size landing q.0))
      (λ q.
      let h = leb-false T.size landing q.0 in
      ⊎_elim
      (λ r. ⊎_elim
      (λ v. no_next v.1)
      (λ v. blank some r.0 v.0)
      (choose-cases (T.valid landing) r.1))
      (λ r. ⊎_elim
      (λ v. no_next v.1)
      (λ v.
      let s : Scanned T.valid landing T.size (first_from T landing) = first_says T landing (omega arith) in
      let f = ltb-false (first_from T landing) T.size v.0 in
      lost some r.0 (λ k x y. s.before k (omega arith) (omega arith)))
      (choose-cases (ltb (first_from T landing) T.size) r.1))
      (choose-cases (exact T.cap (T.next i)) q.1))
      (choose-cases (leb T.size landing) p.1))
      (choose-cases (eqb (T.next i) 0) e)
