-- The laws of overlap: it goes both ways, it is a byte in common, and what it says of a list with one more area. Assumes nothing.
use Prim.Native.Nat.{ℕ, ◌≤◌, ◌<◌, min, max}
use native.Mathlib.Nat.{min_comm, max_comm}
use native.Mathlib.Omega.{arith}
use mathlib.Core.Path.{◌≡◌, refl, sym, ap, ap₂, ◌∙◌}
use mathlib.Core.Bool.{Bool, true, false, ◌||◌, not}
use mathlib.Core.List.{List, [], ◌∷◌, ◌++◌, append-nil}
use lib.Dec.{ltb, leb}
use borrow.Author.Tests.{lt-ltb, ltb-true, le-leb, leb-true, not-true}
use Rattle.lists.proofs.All.{All}
use Rattle.lists.proofs.Member.{all_weaker}
use Rattle.lists.proofs.Pairs.{Pairs, alone, before}
use Rattle.areas.specs.declared.Area.{Area}
use Rattle.areas.specs.Area.{end_of, inside, overlaps, struck, strikes, apart}
use Rattle.areas.proofs.Tests.{clash, refuted, split, join, and_left, and_right, or_assoc, or_comm, or_left, or_right}
use Rattle.areas.proofs.Has.{has_nil, has_cons, has_append, has_none, none_has}

module _ (a b : Area) where
  pub overlaps_sym : overlaps a b ≡ overlaps b a
  unfolding overlaps
  overlaps_sym = ap₂ ltb (max_comm a.start b.start) (min_comm (end_of a) (end_of b))

  -- §3.4: a byte that belongs to both
  abbrev pub Shares : Type 0
  Shares = (x : ℕ) × (a.start ≤ x) × (x < end_of a) × (b.start ≤ x) × (x < end_of b)

  pub overlaps_byte : overlaps a b ≡ true → Shares
  unfolding overlaps
  overlaps_byte e =
      let h : max a.start b.start < min (end_of a) (end_of b) = ltb-true (max a.start b.start) (min (end_of a) (end_of b)) e in
      (max a.start b.start, omega arith, omega arith, omega arith, omega arith)

  pub byte_overlaps : Shares → overlaps a b ≡ true
  unfolding overlaps
  byte_overlaps s =
      lt-ltb (max a.start b.start) (min (end_of a) (end_of b)) (omega (arith, s.1, s.2, s.3, s.4))

  -- there is none
  abbrev pub Clear : Type 0
  Clear = Shares → ⊥

  pub clear_overlaps : Clear → overlaps a b ≡ false
  clear_overlaps f = sym (refuted (overlaps a b) (λ e. f (overlaps_byte e)))

  pub overlaps_clear : overlaps a b ≡ false → Clear
  overlaps_clear e s = clash (byte_overlaps s) e

  -- one inside the other
  pub record Inside : Type 0 where
    pub from : a.start ≤ b.start
    pub upto : end_of b ≤ end_of a

  pub inside_says : inside a b ≡ true → Inside
  unfolding inside
  inside_says e =
      let p = split (leb a.start b.start) (leb (end_of b) (end_of a) ∷ []) e in
      record { from = leb-true a.start b.start p.0; upto = leb-true (end_of b) (end_of a) p.1 }

  pub inside_is : Inside → inside a b ≡ true
  unfolding inside
  inside_is p =
      join (leb a.start b.start) (leb (end_of b) (end_of a) ∷ [])
      (le-leb a.start b.start p.from, le-leb (end_of b) (end_of a) p.upto)

-- what an area strikes in a list, by the list's parts
module _ (a : Area) where
  pub strikes_nil : strikes [] a ≡ false
  unfolding strikes struck
  strikes_nil = has_nil (overlaps a)

  pub strikes_cons : (b : Area) (l : List Area) → strikes (b ∷ l) a ≡ (overlaps a b || strikes l a)
  unfolding strikes struck
  strikes_cons b l = has_cons (overlaps a) b l

  pub strikes_append : (l r : List Area) → strikes (l ++ r) a ≡ (strikes l a || strikes r a)
  unfolding strikes struck
  strikes_append l r = has_append (overlaps a) l r

  pub strikes_between : (l r : List Area) (b : Area) → strikes (l ++ (b ∷ r)) a ≡ (overlaps a b || strikes (l ++ r) a)
  strikes_between l r b =
      strikes_append l (b ∷ r) ∙ ap (λ (x : Bool). strikes l a || x) (strikes_cons b r) ∙ turned (strikes l a) (overlaps a b) (strikes r a)
      ∙ ap (λ (x : Bool). overlaps a b || x) (sym (strikes_append l r))
    where
      turned : (x y z : Bool) → (x || (y || z)) ≡ (y || (x || z))
      turned x y z = sym (or_assoc x y z) ∙ ap (λ (w : Bool). w || z) (or_comm x y) ∙ or_assoc y x z

-- a list of which no two areas overlap, with one more area put in
module _ (a : Area) (r : List Area) where
  pub apart_insert : (l : List Area) → apart (l ++ r) ≡ true → strikes (l ++ r) a ≡ false → apart (l ++ (a ∷ r)) ≡ true
  unfolding apart
  apart_insert [] e s = rw s e
  apart_insert (b ∷ l) e s =
      let t : (overlaps a b || strikes (l ++ r) a) ≡ false = sym (strikes_cons a b (l ++ r)) ∙ s in
      let o : overlaps b a ≡ false = overlaps_sym b a ∙ or_left (overlaps a b) (strikes (l ++ r) a) t in
      let n : strikes (l ++ r) b ≡ false = not-true (strikes (l ++ r) b) (and_left (not (strikes (l ++ r) b)) (apart (l ++ r)) e) in
      let i : apart (l ++ (a ∷ r)) ≡ true = apart_insert l (and_right (not (strikes (l ++ r) b)) (apart (l ++ r)) e) (or_right (overlaps a b) (strikes (l ++ r) a) t) in
      rw (strikes_between b l r a, o, n) i

  -- and back
  pub apart_remove : (l : List Area) → apart (l ++ (a ∷ r)) ≡ true → apart (l ++ r) ≡ true
  unfolding apart
  apart_remove [] e = and_right (not (strikes r a)) (apart r) e
  apart_remove (b ∷ l) e =
      let n : strikes (l ++ (a ∷ r)) b ≡ false = not-true (strikes (l ++ (a ∷ r)) b) (and_left (not (strikes (l ++ (a ∷ r)) b)) (apart (l ++ (a ∷ r))) e) in
      let f : strikes (l ++ r) b ≡ false = or_right (overlaps b a) (strikes (l ++ r) b) (sym (strikes_between b l r a) ∙ n) in
      rw f (apart_remove l (and_right (not (strikes (l ++ (a ∷ r)) b)) (apart (l ++ (a ∷ r))) e))

  pub apart_free : (l : List Area) → apart (l ++ (a ∷ r)) ≡ true → strikes (l ++ r) a ≡ false
  unfolding apart
  apart_free [] e = not-true (strikes r a) (and_left (not (strikes r a)) (apart r) e)
  apart_free (b ∷ l) e =
      let n : strikes (l ++ (a ∷ r)) b ≡ false = not-true (strikes (l ++ (a ∷ r)) b) (and_left (not (strikes (l ++ (a ∷ r)) b)) (apart (l ++ (a ∷ r))) e) in
      let o : overlaps a b ≡ false = overlaps_sym a b ∙ or_left (overlaps b a) (strikes (l ++ r) b) (sym (strikes_between b l r a) ∙ n) in
      strikes_cons a b (l ++ r) ∙ rw o (apart_free l (and_right (not (strikes (l ++ (a ∷ r)) b)) (apart (l ++ (a ∷ r))) e))

-- the same at the end of the list
pub apart_behind : (l : List Area) (a : Area) → apart l ≡ true → strikes l a ≡ false → apart (l ++ (a ∷ [])) ≡ true
apart_behind l a e s = apart_insert a [] l (rw append-nil e) (rw append-nil s)

-- what the test of a list says: no two of its areas share a byte
module _ (a : Area) where
  strikes_clear : (l : List Area) → strikes l a ≡ false → All (Clear a) l
  unfolding strikes struck
  strikes_clear l e = all_weaker (overlaps_clear a) l (has_none (overlaps a) l e)

  clear_strikes : (l : List Area) → All (Clear a) l → strikes l a ≡ false
  unfolding strikes struck
  clear_strikes l r = none_has (overlaps a) l (all_weaker (clear_overlaps a) l r)

pub apart_says : (l : List Area) → apart l ≡ true → Pairs Clear l
unfolding apart
apart_says [] e = alone
apart_says (a ∷ l) e =
    before (strikes_clear a l (not-true (strikes l a) (and_left (not (strikes l a)) (apart l) e))) (apart_says l (and_right (not (strikes l a)) (apart l) e))

pub apart_is : (l : List Area) → Pairs Clear l → apart l ≡ true
unfolding apart
apart_is [] alone = refl
apart_is (a ∷ l) (before c p) = rw (clear_strikes a l c) (apart_is l p)
