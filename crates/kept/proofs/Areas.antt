-- Lists in which no two elements strike one another: one more element, and one less. Areas and VCPUs make such lists.
use Prim.Native.Nat.{suc}
use native.Mathlib.Nat.{max_comm, min_comm}
use mathlib.Core.Path.{◌≡◌, refl, sym, ap, ◌∙◌}
use mathlib.Core.Bool.{Bool, true, false, ◌&&◌, ◌||◌, not}
use mathlib.Core.List.{List, [], ◌∷◌, ◌++◌}
use lib.ListN.{length}
use lib.Dec.{ltb, leb-suc-suc, leb-zero}
use borrow.Author.Tests.{not-true}
use Rattle.lists.specs.Rows.{choose, find_ix}
use Rattle.areas.specs.declared.Area.{Area}
use Rattle.areas.specs.Area.{overlaps, end_of, struck, strikes, apart}
use Rattle.kept.proofs.Choice.{and_left, and_right, and_both, or_left, or_right, or_none}

or_swap : (a b c : Bool) → (a || (b || c)) ≡ (b || (a || c))
or_swap true true c = refl
or_swap true false c = refl
or_swap false b c = refl

module _ {A : Type 0} where
  -- whether a test finds one
  abbrev pub found : (A → Bool) → List A → Bool
  found p l = ltb (find_ix p l) (length l)

  found_cons : (p : A → Bool) (x : A) (l : List A) → found p (x ∷ l) ≡ (p x || found p l)
  unfolding find_ix
  found_cons p x l = here (p x)
    where
      here : (b : Bool) → ltb (choose b 0 (suc (find_ix p l))) (suc (length l)) ≡ (b || found p l)
      here true = leb-suc-suc 0 (length l) ∙ leb-zero (length l)
      here false = leb-suc-suc (suc (find_ix p l)) (length l)

  found_among : (p : A → Bool) (l : List A) (a : A) (r : List A) → found p (l ++ (a ∷ r)) ≡ (p a || found p (l ++ r))
  found_among p [] a r = found_cons p a r
  found_among p (x ∷ l) a r =
      found_cons p x (l ++ (a ∷ r)) ∙ ap (λ (b : Bool). p x || b) (found_among p l a r)
      ∙ or_swap (p x) (p a) (found p (l ++ r)) ∙ ap (λ (b : Bool). p a || b) (sym (found_cons p x (l ++ r)))

-- lists in which no two strike one another
module _ {A : Type 0} (strike : A → A → Bool) where
  unfoldable pub clear : List A → Bool
  clear [] = true
  clear (a ∷ l) = not (found (strike a) l) && clear l

  module _ (a : A) (r : List A) where
    -- one more that strikes none
    pub clear_with : ((x y : A) → strike x y ≡ strike y x) → (l : List A) → clear (l ++ r) ≡ true → found (strike a) (l ++ r) ≡ false → clear (l ++ (a ∷ r)) ≡ true
    unfolding clear
    clear_with s [] c n = and_both (ap not n) c
    clear_with s (x ∷ l) c n =
        let t = not (found (strike x) (l ++ r)) in
        let m = sym (found_cons (strike a) x (l ++ r)) ∙ n in
        and_both
        (ap not (found_among (strike x) l a r ∙ or_none (s x a ∙ or_left _ _ m) (not-true _ (and_left t _ c))))
        (clear_with s l (and_right t _ c) (or_right (strike a x) _ m))

    -- one less
    pub clear_without : (l : List A) → clear (l ++ (a ∷ r)) ≡ true → clear (l ++ r) ≡ true
    unfolding clear
    clear_without [] c = and_right (not (found (strike a) r)) _ c
    clear_without (x ∷ l) c =
        let t = not (found (strike x) (l ++ (a ∷ r))) in
        let n = sym (found_among (strike x) l a r) ∙ not-true _ (and_left t _ c) in
        and_both (ap not (or_right (strike x a) _ n)) (clear_without l (and_right t _ c))

pub overlaps_sym : (a b : Area) → overlaps a b ≡ overlaps b a
unfolding overlaps
overlaps_sym a b = rw (max_comm a.start b.start, min_comm (end_of a) (end_of b))

apart_clear : (l : List Area) → apart l ≡ clear overlaps l
unfolding apart strikes struck clear
apart_clear [] = refl
apart_clear (a ∷ l) = ap (λ (b : Bool). not (strikes l a) && b) (apart_clear l)

-- an area put in among areas apart, and one taken out
module _ (l : List Area) (a : Area) (r : List Area) where
  pub apart_with : apart (l ++ r) ≡ true → strikes (l ++ r) a ≡ false → apart (l ++ (a ∷ r)) ≡ true
  unfolding strikes struck
  apart_with c n =
      apart_clear (l ++ (a ∷ r)) ∙ clear_with overlaps a r overlaps_sym l (sym (apart_clear (l ++ r)) ∙ c) n

  pub apart_without : apart (l ++ (a ∷ r)) ≡ true → apart (l ++ r) ≡ true
  apart_without c = apart_clear (l ++ r) ∙ clear_without overlaps a r l (sym (apart_clear (l ++ (a ∷ r))) ∙ c)
