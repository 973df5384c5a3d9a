-- A relation of each element to each later one: strictly rising keys, areas of which no two overlap, distinct names.
use mathlib.Core.Path.{◌≡◌, ap}
use mathlib.Core.Logic.{⊎_elim}
use mathlib.Core.List.{List, [], ◌∷◌}
use Rattle.lists.proofs.All.{All}
use Rattle.lists.proofs.Member.{In, member, nowhere, all_in}

pub data Pairs {A : Type 0} (R : A → A → Type 0) : List A → Type 0 where
  alone : Pairs R []
  before : {x : A} {xs : List A} → All (R x) xs → Pairs R xs → Pairs R (x ∷ xs)

module _ {A B : Type 0} {R : A → A → Type 0} (name : A → B) (differ : (x y : A) → R x y → name x ≡ name y → ⊥) where
  -- elements that are all named differently: one with a name is the one with it
  pub named_once : {x y : A} (l : List A) → Pairs R l → In x l → In y l → name x ≡ name y → x ≡ y
  named_once [] alone m n e = absurd (nowhere m)
  named_once {x} {y} (z ∷ l) (before a p) m n e = ⊎_elim
      (λ q. ⊎_elim
      (λ r. cc)
      (λ r. absurd (differ z y (all_in l a r) (let s = ap name q in cc)))
      (member n))
      (λ q. ⊎_elim
      (λ r. absurd (differ z x (all_in l a q) (let s = ap name r in cc)))
      (λ r. named_once l p q r e)
      (member n))
      (member m)
