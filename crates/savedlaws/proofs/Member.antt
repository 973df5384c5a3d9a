-- Facts that hold of every member of a list, joined and taken apart.
use mathlib.Core.List.{List, [], ◌∷◌}
use Rattle.lists.proofs.All.{All, none, more}

module _ {A : Type 0} where
  pub all_both : {P Q R : A → Type 0} → ((x : A) → P x → Q x → R x) → (l : List A) → All P l → All Q l → All R l
  all_both f [] none none = none
  all_both f (x ∷ l) (more p r) (more q s) = more (f x p q) (all_both f l r s)

  pub all_first : {P : A → Type 0} {x : A} {l : List A} → All P (x ∷ l) → P x
  all_first (more p r) = p

  pub all_rest : {P : A → Type 0} {x : A} {l : List A} → All P (x ∷ l) → All P l
  all_rest (more p r) = r
