-- Where a slot leads, both ways. Assumes nothing.
use mathlib.Core.Path.{◌≡◌, refl, sym, ◌∙◌}
use mathlib.Core.Bool.{Bool, true, false}
use mathlib.Core.Logic.{◌⊎◌, inl, inr, ⊎_elim}
use Prim.Native.Nat.{ℕ, ◌+◌, ◌-◌, ◌≤◌, ◌<◌, min}
use native.Mathlib.Omega.{arith}
use lib.Dec.{ltb, leb, eqb}
use borrow.Author.Tests.{lt-ltb, le-leb, lt-leb, eq-eqb, ne_eqb, ltb-true, ltb-false, leb-false, eqb-true, eqb-false}
use Rattle.lists.specs.Rows.{choose}
use Rattle.chains.specs.declared.Next.TheVariants.{Last, At, Bad}
use Rattle.chains.specs.Slots.{Cap, at_most, uncapped, capped, exact, Slots, first_from, following, Blank, Link}
use Rattle.chains.proofs.Scan.{Scanned, first_says, found_at}

pub choose-cases {ℓ} : {A : Type ℓ} (b : Bool) {x y z : A} → choose b x y ≡ z → ((b ≡ true) × (x ≡ z)) ⊎ ((b ≡ false) × (y ≡ z))
choose-cases true e = inl (refl, e)
choose-cases false e = inr (refl, e)

-- what an entry holds, and the distances that it may stand for
pub capped_le : (c : Cap) (d : ℕ) → capped c d ≤ d
capped_le (at_most n) d = omega arith
capped_le uncapped d = omega arith

pub capped_pos : (c : Cap) → 0 < capped c 1 → (d : ℕ) → 0 < d → 0 < capped c d
capped_pos (at_most n) p d h = omega arith
capped_pos uncapped p d h = omega arith

capped_exact : (c : Cap) (d : ℕ) → exact c (capped c d) ≡ true → capped c d ≡ d
capped_exact (at_most n) d e = let l = ltb-true (min d n) n e in omega arith
capped_exact uncapped d e = refl

capped_far : (c : Cap) (n d : ℕ) → capped c n ≡ n → exact c n ≡ false → n ≤ d → n ≡ capped c d
capped_far (at_most m) n d s e h = let l = ltb-false n m e in omega arith
capped_far uncapped n d s e h = let z : ◌≡◌ {A = ℕ} 0 1 = cc in absurd (omega arith)

module _ (T : Slots) (pos : 0 < capped T.cap 1) where
  -- `Link` (§8.4, §8.5) and where a slot leads (§9.6) are the same, where no next is above the cap
  pub leads : (i j : ℕ) → Link T i j → following T i ≡ At j
  unfolding following
  leads i j l =
      let n = T.next i in
      let up = l.rises in
      let some : 0 < n = rw l.next (capped_pos T.cap pos (j - i) (omega arith)) in
      let most : n ≤ j - i = rw l.next (capped_le T.cap (j - i)) in
      by (exact T.cap n) refl some most
    where
      by : (b : Bool) → exact T.cap (T.next i) ≡ b → 0 < T.next i → T.next i ≤ j - i → following T i ≡ At j
      by true e some most =
          let m : T.next i ≡ j - i = l.next ∙ capped_exact T.cap (j - i) (rw l.next at e) in
          let s : i + T.next i ≡ j = omega (arith, l.rises) in
          rw (e, s, ne_eqb (T.next i) 0 (omega arith), lt-leb T.size j l.inside, l.valid)
      by false e some most =
          let b : Blank T (i + T.next i) j = λ k x y. l.gap (omega arith) k x y in
          let f : first_from T (i + T.next i) ≡ j = found_at T (i + T.next i) j (omega (arith, l.rises)) l.inside b l.valid in
          rw (e, f, ne_eqb (T.next i) 0 (omega arith), lt-leb T.size (i + T.next i) (omega (arith, l.inside, l.rises)), lt-ltb j T.size l.inside)

  pub led : (i j : ℕ) → capped T.cap (T.next i) ≡ T.next i → following T i ≡ At j → Link T i j
  unfolding following
  led i j b e = ⊎_elim
      (λ p. let z : ◌≡◌ {A = ℕ} 0 1 = cc in absurd (omega arith))
      (λ p. ⊎_elim
      (λ q. let z : ◌≡◌ {A = ℕ} 0 1 = cc in absurd (omega arith))
      (λ q. ⊎_elim
      (λ r. ⊎_elim
      (λ v.
      let x : j ≡ i + T.next i = cc in
      let n = eqb-false (T.next i) 0 p.0 in
      let q' = leb-false T.size (i + T.next i) q.0 in
      let w : j - i ≡ T.next i = omega arith in
      record { rises = omega arith; inside = omega arith; valid = rw x v.0; next = rw w (sym b); gap = λ g. absurd (omega arith) })
      (λ v. let z : ◌≡◌ {A = ℕ} 0 1 = cc in absurd (omega arith))
      (choose-cases (T.valid (i + T.next i)) r.1))
      (λ r. ⊎_elim
      (λ v.
      let x : first_from T (i + T.next i) ≡ j = cc in
      let n = eqb-false (T.next i) 0 p.0 in
      let q' = leb-false T.size (i + T.next i) q.0 in
      let v' : j < T.size = rw x at (ltb-true (first_from T (i + T.next i)) T.size v.0) in
      let s : Scanned T.valid (i + T.next i) T.size j = rw x at (first_says T (i + T.next i) (omega arith)) in
      record {
        rises = omega (arith, s.from);
        inside = v';
        valid = s.hit v';
        next = capped_far T.cap (T.next i) (j - i) b r.0 (omega (arith, s.from));
        gap = λ g. s.before;
      })
      (λ v. let z : ◌≡◌ {A = ℕ} 0 1 = cc in absurd (omega arith))
      (choose-cases (ltb (first_from T (i + T.next i)) T.size) r.1))
      (choose-cases (exact T.cap (T.next i)) q.1))
      (choose-cases (leb T.size (i + T.next i)) p.1))
      (choose-cases (eqb (T.next i) 0) e)

  pub ends : (i : ℕ) → following T i ≡ Last → T.next i ≡ 0
  unfolding following
  ends i e = ⊎_elim
      (λ p. eqb-true (T.next i) 0 p.0)
      (λ p. ⊎_elim
      (λ q. let z : ◌≡◌ {A = ℕ} 0 1 = cc in absurd (omega arith))
      (λ q. ⊎_elim
      (λ r. ⊎_elim (λ v. let z : ◌≡◌ {A = ℕ} 0 1 = cc in absurd (omega arith)) (λ v. let z : ◌≡◌ {A = ℕ} 0 1 = cc in absurd (omega arith)) (choose-cases (T.valid (i + T.next i)) r.1))
      (λ r. ⊎_elim (λ v. let z : ◌≡◌ {A = ℕ} 0 1 = cc in absurd (omega arith)) (λ v. let z : ◌≡◌ {A = ℕ} 0 1 = cc in absurd (omega arith)) (choose-cases (ltb (first_from T (i + T.next i)) T.size) r.1))
      (choose-cases (exact T.cap (T.next i)) q.1))
      (choose-cases (leb T.size (i + T.next i)) p.1))
      (choose-cases (eqb (T.next i) 0) e)

  pub ended : (i : ℕ) → T.next i ≡ 0 → following T i ≡ Last
  unfolding following
  ended i e = rw (eq-eqb (T.next i) 0 e)

-- the ways of the code: the distance d that was read, and the tests on it
module _ (T : Slots) (i d : ℕ) (e : d ≡ T.next i) where
  pub way_last : d ≡ 0 → Last ≡ following T i
  unfolding following
  way_last z = rw (← e, eq-eqb d 0 z)

  module _ (n : d ≡ 0 → ⊥) where
    pub way_out : T.size ≤ i + d → Bad ≡ following T i
    unfolding following
    way_out h = rw (← e, ne_eqb d 0 n, le-leb T.size (i + d) h)

    module _ (h : i + d < T.size) where
      pub way_near : exact T.cap d ≡ true → choose (T.valid (i + d)) (At (i + d)) Bad ≡ following T i
      unfolding following
      way_near c = rw (← e, ne_eqb d 0 n, lt-leb T.size (i + d) h, c)

      pub way_far : exact T.cap d ≡ false → choose (ltb (first_from T (i + d)) T.size) (At (first_from T (i + d))) Bad ≡ following T i
      unfolding following
      way_far c = rw (← e, ne_eqb d 0 n, lt-leb T.size (i + d) h, c)
