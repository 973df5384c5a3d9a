-- Properties of every row that follow from others, and searches of a list of images.
use Prim.Native.Nat.{ℕ, suc}
use mathlib.Core.Path.{◌≡◌, refl, ap}
use mathlib.Core.Bool.{Bool}
use mathlib.Core.List.{List, [], ◌∷◌, map}
use Rattle.lists.specs.Rows.{choose, find_ix}
use Rattle.lists.proofs.All.{All, none, more}

module _ {A : Type 0} {P : A → Type 0} where
  pub all_weaken : {Q : A → Type 0} {l : List A} → ((x : A) → P x → Q x) → All P l → All Q l
  all_weaken f none = none
  all_weaken f (more p r) = more (f _ p) (all_weaken f r)

  -- from two properties
  pub all_both : {Q R : A → Type 0} {l : List A} → ((x : A) → P x → Q x → R x) → All P l → All Q l → All R l
  all_both f none none = none
  all_both f (more p r) (more q s) = more (f _ p q) (all_both f r s)

-- a test of the image finds the same row
pub find_map : {A B : Type 0} (f : A → B) (p : B → Bool) (l : List A) → find_ix p (map f l) ≡ find_ix (λ x. p (f x)) l
unfolding find_ix
find_map f p [] = refl
find_map f p (x ∷ xs) = ap (λ (n : ℕ). choose (p (f x)) 0 (suc n)) (find_map f p xs)
