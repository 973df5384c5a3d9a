-- The searches of `Rows` and those of std's iterators give the same: `find_ix` is `position`, or the length where it is `None`; that it is
-- below the length is `any`; `all` is `all`. Assumes nothing.
use Prim.Native.Nat.{ℕ, zero, suc, ◌+◌, ◌≤◌, ◌<◌}
use native.Mathlib.Omega.{arith}
use Rattle.std.proofs.Common.{zero-le}
use lib.Dec.{ltb, leb-suc-suc}
use mathlib.Core.Path.{◌≡◌, refl, sym, ap, ◌∙◌}
use mathlib.Core.Bool.{Bool, true, false, not, ◌||◌}
use mathlib.Core.List.{List, [], ◌∷◌}
use lib.ListN.{length}
use Rattle.std.specs.Prelude.{cond, Option, Some, None, position, nat_lt}
use Rattle.std.specs.List.{position_or_len, list_any, list_all, prefix_len}
use Rattle.std.specs.Option.{unwrap_or}
use Rattle.std.proofs.lemmas.Option.{cond_some}
use borrow.Author.Tests.{ltb-true}
use Rattle.lists.specs.Rows.{find_ix, all, choose}

module _ {A : Type 0} (p : A → Bool) where
  one_more : (b : Bool) (n m : ℕ) → m ≡ n → cond (not b) (1 + m) 0 ≡ choose b 0 (suc n)
  one_more true n m h = refl
  one_more false n m h = omega (arith, h)

  pub place_or_length : (l : List A) → position_or_len p l ≡ find_ix p l
  unfolding find_ix
  place_or_length [] = refl
  place_or_length (x ∷ xs) = one_more (p x) (find_ix p xs) (position_or_len p xs) (place_or_length xs)

  -- where the place is below the length, it is handed back, and else the length
  chosen : (b : Bool) (n m : ℕ) → m ≤ n → nat_lt m n ≡ b → unwrap_or (cond b (Some m) None) n ≡ m
  chosen true n m h t = refl
  chosen false n m h t = grind arith

  capped : (b : Bool) (n m : ℕ) → m ≤ n → cond (not b) (1 + m) 0 ≤ suc n
  capped true n m h = zero-le
  capped false n m h = omega (arith, h)

  within : (l : List A) → position_or_len p l ≤ length l
  within [] = zero-le
  within (x ∷ xs) = capped (p x) (length xs) (position_or_len p xs) (within xs)

  pub found_or_length : (l : List A) → unwrap_or (position p l) (length l) ≡ find_ix p l
  found_or_length l = chosen (nat_lt (position_or_len p l) (length l)) (length l) (position_or_len p l) (within l) refl ∙ place_or_length l

  -- what `position` hands back, by cases
  pub found : (l : List A) (k : ℕ) → position p l ≡ Some k → (find_ix p l ≡ k) × (k < length l)
  found l k h =
      let both = cond_some (nat_lt (position_or_len p l) (length l)) (position_or_len p l) k h in
      (sym (place_or_length l) ∙ both.1, rw both.1 at (ltb-true (position_or_len p l) (length l) both.0))

  pub not_found : (l : List A) → position p l ≡ None → find_ix p l ≡ length l
  not_found l h = sym (found_or_length l) ∙ ap (λ (o : Option ℕ). unwrap_or o (length l)) h

  below : (b t : Bool) (n m : ℕ) → t ≡ ltb n m → (b || t) ≡ ltb (choose b 0 (suc n)) (suc m)
  below true t n m h = grind arith
  below false t n m h = h ∙ sym (leb-suc-suc (suc n) m)

  pub any_found : (l : List A) → list_any p l ≡ ltb (find_ix p l) (length l)
  unfolding find_ix
  any_found [] = refl
  any_found (x ∷ xs) = below (p x) (list_any p xs) (find_ix p xs) (length xs) (any_found xs)

  pub all_tests : (l : List A) → list_all p l ≡ all p l
  unfolding all
  all_tests [] = refl
  all_tests (x ∷ xs) = rw (all_tests xs) refl
