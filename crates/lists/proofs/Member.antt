-- Members of a list, and facts that hold of every member.
use Prim.Native.Nat.{ℕ, zero, suc, ◌<◌}
use native.Mathlib.Omega.{arith}
use native.Mathlib.Nat.{not-suc-le-zero, le_of_suc-le-suc}
use mathlib.Core.Path.{◌≡◌, refl, sym, ap}
use mathlib.Core.Logic.{◌⊎◌, ⊎_elim}
use mathlib.Core.List.Memᴰ
use mathlib.Core.List.{List, [], ◌∷◌, ◌++◌, map, Memᴰ}
use lib.ListN.{length, get_or}
use Rattle.lists.proofs.All.{All, none, more}

module _ {A : Type 0} where
  abbrev pub In : A → List A → Type 0
  In x l = Memᴰ x l

  pub here : {x : A} {l : List A} → In x (x ∷ l)
  here = Memᴰ.head refl

  pub is_here : {x y : A} {l : List A} → x ≡ y → In x (y ∷ l)
  is_here e = Memᴰ.head e

  pub there : {x y : A} {l : List A} → In x l → In x (y ∷ l)
  there m = Memᴰ.tail m

  pub member : {x y : A} {l : List A} → In x (y ∷ l) → (x ≡ y) ⊎ In x l
  member m = Memᴰ.cases_cons m

  pub nowhere : {x : A} → In x [] → ⊥
  nowhere m = Memᴰ.not-nil m

  -- a fact of all is a fact of each
  pub all_in : {P : A → Type 0} {x : A} (l : List A) → All P l → In x l → P x
  all_in [] none m = absurd (nowhere m)
  all_in (y ∷ l) (more p r) m = ⊎_elim (λ e. rw e p) (λ n. all_in l r n) (member m)

  pub all_of : {P : A → Type 0} (l : List A) → ((x : A) → In x l → P x) → All P l
  all_of [] f = none
  all_of (x ∷ l) f = more (f x here) (all_of l (λ y m. f y (there m)))

  pub all_weaker : {P Q : A → Type 0} → ((x : A) → P x → Q x) → (l : List A) → All P l → All Q l
  all_weaker f [] none = none
  all_weaker f (x ∷ l) (more p r) = more (f x p) (all_weaker f l r)

  -- members by index
  pub in_at : (l : List A) (j : ℕ) (d : A) → j < length l → In (get_or l j d) l
  in_at [] j d h = absurd (not-suc-le-zero h)
  in_at (x ∷ l) zero d h = here
  in_at (x ∷ l) (suc j) d h = there (in_at l j d (le_of_suc-le-suc h))

  pub at_in : {x : A} (l : List A) (d : A) → In x l → (j : ℕ) × (j < length l) × (get_or l j d ≡ x)
  at_in {x = z} [] d m = absurd (nowhere m)
  at_in {x = z} (y ∷ l) d m = ⊎_elim
      (λ e. (0, omega arith, sym e))
      (λ n. let r : (j : ℕ) × (j < length l) × (get_or l j d ≡ z) = at_in {x = z} l d n in let h : r.0 < length l = r.1 in (suc r.0, omega arith, r.2))
      (member m)

  -- members of two lists joined
  pub in_left : {x : A} {l : List A} (r : List A) → In x l → In x (l ++ r)
  in_left r m = Memᴰ.append_left r m

  pub in_right : {x : A} (l : List A) {r : List A} → In x r → In x (l ++ r)
  in_right l m = Memᴰ.append_right l m

  pub in_either : {x : A} (l : List A) {r : List A} → In x (l ++ r) → In x l ⊎ In x r
  in_either l m = Memᴰ.append_cases l m

-- a mapped list
module _ {A B : Type 0} (f : A → B) where
  pub all_map : {P : B → Type 0} (l : List A) → All (λ x. P (f x)) l → All P (map f l)
  all_map [] none = none
  all_map (x ∷ l) (more p r) = more p (all_map l r)

  pub map_all : {P : B → Type 0} (l : List A) → All P (map f l) → All (λ x. P (f x)) l
  map_all [] none = none
  map_all (x ∷ l) (more p r) = more p (map_all l r)

  pub length-map : (l : List A) → length (map f l) ≡ length l
  length-map [] = refl
  length-map (x ∷ l) = ap suc (length-map l)

  pub map-append : (l r : List A) → map f (l ++ r) ≡ map f l ++ map f r
  map-append [] r = refl
  map-append (x ∷ l) r = ap (λ (s : List B). f x ∷ s) (map-append l r)

  -- back and forth
  pub map_back : (g : B → A) (l : List A) → All (λ x. g (f x) ≡ x) l → map g (map f l) ≡ l
  map_back g [] none = refl
  map_back g (x ∷ l) (more e r) = rw (e, map_back g l r)
