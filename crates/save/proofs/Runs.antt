-- The events of a device are a run of the rows, and the runs follow each other as the devices do. Assumes nothing.
use Prim.Native.Nat.{ℕ, ◌+◌, ◌≤◌, ◌<◌, suc-le-suc}
use native.Mathlib.Omega.{arith}
use mathlib.Core.Path.{◌≡◌, refl, ap, ◌∙◌}
use mathlib.Core.Logic.{⊎_elim}
use mathlib.Core.List.{List, [], ◌∷◌}
use lib.ListN.{take, drop}
use lib.Seq.{drop-nil}
use lib.Dec.{eqb}
use borrow.Author.Tests.{le-leb, lt-leb, eq-eqb, ne_eqb}
use Rattle.lists.specs.Rows.{find_ix}
use Rattle.lists.proofs.All.{All, none, more}
use Rattle.areas.proofs.Tests.{lt_or_ge}
use Rattle.mapping.specs.Mapped.{place_of, kept}
use Rattle.save.specs.Saving.{Sorted}
use Rattle.save.proofs.Rows.{all_weaker}

module _ {A : Type 0} (key : A → ℕ) where
  -- no key is below the bound: the search ends at once
  place_first : (k : ℕ) (l : List A) → All (λ y. k ≤ key y) l → place_of key k l ≡ 0
  unfolding find_ix
  place_first k [] none = refl
  place_first k (x ∷ l) (more h r) = rw (le-leb k (key x) h)

  -- a larger bound is not met earlier
  pub place_mono : (j k : ℕ) (l : List A) → j ≤ k → place_of key j l ≤ place_of key k l
  unfolding find_ix
  place_mono j k [] h = omega arith
  place_mono j k (x ∷ l) h =
      ⊎_elim
      (λ (g : key x < j). rw (lt-leb j (key x) g, lt-leb k (key x) (omega arith)) (suc-le-suc (place_mono j k l h)))
      (λ (g : j ≤ key x). rw (le-leb j (key x) g) (omega arith))
      (lt_or_ge (key x) j)

  -- the rows of a key stand between the first that is not below it and the first above it
  pub run : (id : ℕ) (l : List A) → Sorted key l → kept (λ x. eqb (key x) id) l ≡ drop (place_of key id l) (take (place_of key (id + 1) l) l)
  unfolding kept find_ix
  run id [] s = refl
  run id (x ∷ l) s =
      let all = s.0 in
      let i = run id l s.1 in
      ⊎_elim
      (λ (g : key x < id).
      rw (lt-leb id (key x) g, lt-leb (id + 1) (key x) (omega arith), ne_eqb (key x) id (omega arith)) i)
      (λ (g : id ≤ key x).
      ⊎_elim
      (λ (h : key x < id + 1).
      let e : key x ≡ id = omega arith in
      let z : place_of key id l ≡ 0 = place_first id l (all_weaker (λ y q. omega arith) l all) in
      rw (le-leb id (key x) g, lt-leb (id + 1) (key x) h, eq-eqb (key x) id e)
      (ap (λ (r : List A). x ∷ r) (i ∙ ap (λ (n : ℕ). drop n (take (place_of key (id + 1) l) l)) z)))
      (λ (h : id + 1 ≤ key x).
      let z : place_of key (id + 1) l ≡ 0 = place_first (id + 1) l (all_weaker (λ y q. omega arith) l all) in
      rw (le-leb id (key x) g, le-leb (id + 1) (key x) h, ne_eqb (key x) id (omega arith))
      (i ∙ ap (λ (n : ℕ). drop (place_of key id l) (take n l)) z ∙ drop-nil (place_of key id l)))
      (lt_or_ge (key x) (id + 1)))
      (lt_or_ge (key x) id)
