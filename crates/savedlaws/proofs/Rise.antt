-- Rows that rise by a key: below the first, at one index, and by another key.
use Prim.Native.Nat.{ℕ, zero, suc, ◌<◌}
use native.Mathlib.Omega.{arith}
use native.Mathlib.Nat.{not-suc-le-zero, le_of_suc-le-suc}
use mathlib.Core.Path.{◌≡◌, refl, ap}
use mathlib.Core.Bool.{true}
use mathlib.Core.List.{List, [], ◌∷◌}
use lib.ListN.{length, get_or}
use lib.Dec.{ltb}
use borrow.Author.Tests.{lt-ltb, ltb-true}
use Rattle.lists.proofs.All.{All, none, more, all_at}
use Rattle.lists.proofs.Member.{In, all_weaker}
use Rattle.areas.proofs.Tests.{and_left, and_right}
use Rattle.mapping.specs.Mapped.{rising}
use Rattle.mapping.proofs.Rise.{Above, rising_rest, rising_above, rises, one_of_key}
use Rattle.savedlaws.proofs.Member.{all_first}

module _ {A : Type 0} (key : A → ℕ) where
  pub rising_first : (x y : A) (l : List A) → rising key (x ∷ y ∷ l) ≡ true → key x < key y
  rising_first x y l e = all_first (rising_above key x (y ∷ l) e)

  -- every key is above what is below the first
  pub above_below : (x : A) (l : List A) (n : ℕ) → rising key (x ∷ l) ≡ true → n < key x → Above key n (x ∷ l)
  above_below x l n e h = more h (all_weaker (λ y g. omega arith) l (rising_above key x l e))

  -- one row has a key
  pub rising_once : {x y : A} (l : List A) → rising key l ≡ true → In x l → In y l → key x ≡ key y → x ≡ y
  rising_once l e m n k = one_of_key key l (rises key l e) m n k

  -- and stands at one index
  pub rising_index : (l : List A) (d : A) (i j : ℕ) → rising key l ≡ true → i < length l → j < length l → key (get_or l i d) ≡ key (get_or l j d) → i ≡ j
  rising_index [] d i j e g h k = absurd (not-suc-le-zero g)
  rising_index (x ∷ l) d zero zero e g h k = refl
  rising_index (x ∷ l) d zero (suc j) e g h k = absurd (omega (arith, all_at l j d (rising_above key x l e) (le_of_suc-le-suc h)))
  rising_index (x ∷ l) d (suc i) zero e g h k = absurd (omega (arith, all_at l i d (rising_above key x l e) (le_of_suc-le-suc g)))
  rising_index (x ∷ l) d (suc i) (suc j) e g h k =
      ap suc (rising_index l d i j (rising_rest key x l e) (le_of_suc-le-suc g) (le_of_suc-le-suc h) k)

-- rows that rise by one key rise by another that goes with it
pub rising_by : {A : Type 0} {P : A → Type 0} (key key' : A → ℕ) → ((x y : A) → P x → P y → key x < key y → key' x < key' y)
    → (l : List A) → All P l → rising key l ≡ true → rising key' l ≡ true
unfolding rising
rising_by key key' f [] none e = refl
rising_by key key' f (x ∷ []) (more p none) e = refl
rising_by key key' f (x ∷ y ∷ l) (more p (more q r)) e =
    rw (lt-ltb (key' x) (key' y) (f x y p q (ltb-true (key x) (key y) (and_left _ _ e))))
    (rising_by key key' f (y ∷ l) (more q r) (and_right (ltb (key x) (key y)) _ e))
