-- The scan for a slot that is there. Assumes nothing.
use mathlib.Core.Path.{◌≡◌, refl}
use mathlib.Core.Bool.{Bool, true, false}
use mathlib.Core.Logic.{◌⊎◌, inl, inr, ⊎_elim}
use Prim.Native.Nat.{ℕ, zero, suc, ◌+◌, ◌-◌, ◌≤◌, ◌<◌, zero-le, suc-le-suc}
use native.Mathlib.Omega.{arith}
use Rattle.lists.specs.Rows.{choose}
use Rattle.chains.specs.Slots.{Slots, scan, first_from, Blank}

pub lt_or_ge : (a b : ℕ) → (a < b) ⊎ (b ≤ a)
lt_or_ge a zero = inr zero-le
lt_or_ge zero (suc b) = inl (omega arith)
lt_or_ge (suc a) (suc b) = ⊎_elim (λ p. inl (suc-le-suc p)) (λ q. inr (suc-le-suc q)) (lt_or_ge a b)

pub clash : {b : Bool} → b ≡ true → b ≡ false → ⊥
clash p q = let z : ◌≡◌ {A = ℕ} 0 1 = cc in omega arith

-- what the scan says of its answer
pub record Scanned (valid : ℕ → Bool) (i end j : ℕ) : Type 0 where
  pub from : i ≤ j
  pub upto : j ≤ end
  pub before : (k : ℕ) → i ≤ k → k < j → valid k ≡ false
  pub hit : j < end → valid j ≡ true

scanned : (valid : ℕ → Bool) (left i : ℕ) → Scanned valid i (i + left) (scan valid left i)
unfolding scan
scanned valid zero i = record { from = omega arith; upto = omega arith; before = λ k p q. absurd (omega arith); hit = λ l. absurd (omega arith) }
scanned valid (suc left) i = go (valid i) refl (scanned valid left (suc i))
  where
    go : (p : Bool) → valid i ≡ p → Scanned valid (suc i) (suc i + left) (scan valid left (suc i)) → Scanned valid i (i + suc left) (choose p i (scan valid left (suc i)))
    go true e r = record { from = omega arith; upto = omega arith; before = λ k p q. absurd (omega arith); hit = λ l. e }
    go false e r = record {
      from = omega (arith, r.from);
      upto = omega (arith, r.upto);
      before = λ k p q. ⊎_elim
          (λ (l : i < k). r.before k l q)
          (λ (l : k ≤ i). let w : k ≡ i = omega arith in rw w e)
          (lt_or_ge i k);
      hit = λ l. r.hit (omega arith);
    }

-- two answers that both fit are one
scanned_same : (valid : ℕ → Bool) (i end j k : ℕ) → Scanned valid i end j → Scanned valid i end k → j ≤ k
scanned_same valid i end j k p q = ⊎_elim
    (λ (l : k < j). absurd (clash (q.hit (omega (arith, p.upto))) (p.before k q.from l)))
    (λ (l : j ≤ k). l)
    (lt_or_ge k j)

module _ (T : Slots) where
  pub first_says : (i : ℕ) → i ≤ T.size → Scanned T.valid i T.size (first_from T i)
  unfolding first_from
  first_says i h =
      let e : i + (T.size - i) ≡ T.size = omega arith in
      rw e at (scanned T.valid (T.size - i) i)

  -- whatever fits is the answer
  pub first_is : (i j : ℕ) → Scanned T.valid i T.size j → first_from T i ≡ j
  first_is i j s =
      let h : i ≤ T.size = omega (arith, s.from, s.upto) in
      omega (arith, scanned_same T.valid i T.size (first_from T i) j (first_says i h) s, scanned_same T.valid i T.size j (first_from T i) s (first_says i h))

  pub found_at : (i j : ℕ) → i ≤ j → j < T.size → Blank T i j → T.valid j ≡ true → first_from T i ≡ j
  found_at i j a b h v = first_is i j (record { from = a; upto = omega arith; before = h; hit = λ l. v })

  pub found_none : (i : ℕ) → i ≤ T.size → Blank T i T.size → first_from T i ≡ T.size
  found_none i a h = first_is i T.size (record { from = a; upto = omega arith; before = h; hit = λ l. absurd (omega arith) })

  -- the scan, one slot at a time
  pub first_hit : (i : ℕ) → i < T.size → T.valid i ≡ true → first_from T i ≡ i
  unfolding first_from scan
  first_hit i h v =
      let e : T.size - i ≡ suc (T.size - (i + 1)) = omega arith in
      rw (e, v)

  pub first_miss : (i : ℕ) → i < T.size → T.valid i ≡ false → first_from T i ≡ first_from T (i + 1)
  unfolding first_from scan
  first_miss i h v =
      let e : T.size - i ≡ suc (T.size - (i + 1)) = omega arith in
      let f : i + 1 ≡ suc i = omega arith in
      rw (e, v, f)

  pub first_end : (i : ℕ) → T.size ≤ i → first_from T i ≡ i
  unfolding first_from scan
  first_end i h =
      let e : T.size - i ≡ 0 = omega arith in
      rw e
