-- Text that is put behind other text, piece by piece. Assumes nothing.
use Prim.Native.Nat.{ℕ, ◌+◌, ◌*◌, ◌≤◌, ◌<◌}
use native.Mathlib.Nat.{mul-suc, mul-le-mul_left, le_trans, le_of_eq}
use native.Mathlib.Numerals.{add-one}
use native.Mathlib.Omega.{arith}
use mathlib.Core.Path.{◌≡◌, refl, sym, ap, ◌∙◌}
use mathlib.Core.List.{List, [], ◌∷◌, ◌++◌, append_assoc, append-nil}
use Rattle.std.proofs.lemmas.List.{length-append}
use lib.ListN.{length, take, get_or}
use lib.Seq.{take-suc, take_all}
use Rattle.lines.specs.Text.{Adds, lines}

-- one byte more
pub ended : (before text : List ℕ) (room : ℕ) (between after : List ℕ) (end : ℕ) → Adds before text room between
    → after ≡ between ++ (end ∷ []) → Adds before (text ++ (end ∷ [])) (room + 1) after
ended before text room between after end a e =
    let m = a.most in
    record {
      is = e ∙ ap (λ (l : List ℕ). l ++ (end ∷ [])) a.is ∙ append_assoc before text (end ∷ []);
      most = omega (arith, ap length e, length-append {A = ℕ});
    }

module _ {before s : List ℕ} {m : ℕ} {after : List ℕ} (a : Adds before s m after) where
  -- one text after another
  pub adds_both : {t : List ℕ} {n : ℕ} {later : List ℕ} → Adds after t n later → Adds before (s ++ t) (m + n) later
  adds_both {t} b =
      let f = a.most in
      let g = b.most in
      record {
        is = b.is ∙ ap (λ (l : List ℕ). l ++ t) a.is ∙ append_assoc before s t;
        most = omega arith;
      }

  -- the same text by another name, with more room
  pub adds_as : {t : List ℕ} {n : ℕ} → s ≡ t → m ≤ n → Adds before t n after
  adds_as e h =
      let f = a.most in
      record { is = a.is ∙ ap (λ (l : List ℕ). before ++ l) e; most = omega arith }

-- a text that is put into an empty vector is all that is there
pub at_start : {before text : List ℕ} {room : ℕ} {after : List ℕ} → before ≡ [] → Adds before text room after → after ≡ text
at_start {text = text} e a = a.is ∙ ap (λ (l : List ℕ). l ++ text) e

module _ {A : Type 0} (line : A → List ℕ) where
  lines_append : (a b : List A) → lines line (a ++ b) ≡ lines line a ++ lines line b
  unfolding lines
  lines_append [] b = refl
  lines_append (x ∷ xs) b = rw (lines_append xs b) (sym (append_assoc (line x) (lines line xs) (lines line b)))

  lines_more : (l : List A) (i : ℕ) (d : A) → i < length l → lines line (take (i + 1) l) ≡ lines line (take i l) ++ line (get_or l i d)
  unfolding lines
  lines_more l i d h = rw (add-one, take-suc l i d h, lines_append (take i l) (get_or l i d ∷ []), append-nil)

  -- the loop that puts a line of at most so many bytes for each row
  module _ (most : ℕ) (l : List A) where
    pub lines_none : (before : List ℕ) → Adds before (lines line (take 0 l)) (most * 0) before
    unfolding lines
    lines_none before = record { is = sym (append-nil before); most = omega arith }

    -- there is room for one more line
    pub line_room : (i : ℕ) → i < length l → most * i + most ≤ most * length l
    line_room i h = le_trans (le_of_eq (sym (mul-suc most i))) (mul-le-mul_left most h)

    pub line_more : {before between after : List ℕ} (i : ℕ) (row : A) → row ≡ get_or l i row → i < length l
        → Adds before (lines line (take i l)) (most * i) between → Adds between (line row) most after
        → Adds before (lines line (take (i + 1) l)) (most * (i + 1)) after
    line_more i row e h a b =
        adds_as (adds_both a b) (ap (λ (x : A). lines line (take i l) ++ line x) e ∙ sym (lines_more l i row h))
        (le_of_eq (sym (mul-suc most i) ∙ ap (λ (k : ℕ). most * k) (sym (add-one i))))

    pub lines_all : {before after : List ℕ} (i : ℕ) → i ≤ length l → length l ≤ i → Adds before (lines line (take i l)) (most * i) after
        → Adds before (lines line l) (most * length l) after
    lines_all i f h a =
        let e : i ≡ length l = omega arith in
        adds_as a (ap (lines line) (take_all i l h)) (le_of_eq (ap (λ (k : ℕ). most * k) e))
