-- A chained table, written row by row: one law for devices and for events. Assumes nothing.
use Prim.Native.Nat.{ℕ, zero, suc, ◌+◌, ◌-◌, ◌*◌, ◌≤◌, ◌<◌}
use native.Mathlib.Numerals.{add-one}
use native.Mathlib.Omega.{arith}
use mathlib.Core.Path.{◌≡◌, refl, sym, ap, ◌∙◌, subst}
use mathlib.Core.Logic.{⊎_elim}
use mathlib.Core.List.{List, [], ◌∷◌, ◌++◌}
use lib.ListN.{length, get_or, drop, drop_of_length-le}
use borrow.Author.Tests.{eq-eqb, ne_eqb, lt-ltb, le-ltb}
use Rattle.areas.proofs.Tests.{lt_or_ge}
use Rattle.words.specs.Words.{bytes_of, put_at}
use Rattle.chains.specs.Slots.{Cap, capped}
use Rattle.chains.proofs.Way.{capped_le}
use Rattle.tables.specs.Saved.{next_of, chain_word, table_of}
use Rattle.save.specs.Saving.{blank, row_after, Ready, Room}
use Rattle.save.proofs.Rows.{row_left}
use Rattle.save.proofs.Tables.{table_more, table_same, table_none}

-- the row after is the following one, and at the last the row itself
after_more : (j to k : ℕ) → j + 1 < to → k ≡ row_after j to → k ≡ j + 1
after_more j to k h e = e ∙ rw (lt-ltb (j + 1) to h)

after_last : (j to k : ℕ) → to ≤ j + 1 → k ≡ row_after j to → k ≡ j
after_last j to k h e = e ∙ rw (le-ltb (j + 1) to h)

module _ {A : Type 0} (key : A → ℕ) (n : ℕ) where
  pub ready_weaken : (i j : ℕ) (l : List A) → i ≤ j → Ready key n j l → Ready key n i l
  ready_weaken i j [] h r = tt
  ready_weaken i j (x ∷ l) h r = (omega (arith, r.0), r.1, r.2)

  pub ready_drop : (i k : ℕ) (l : List A) → Ready key n i l → Ready key n i (drop k l)
  ready_drop i zero l r = r
  ready_drop i (suc k) [] r = tt
  ready_drop i (suc k) (x ∷ l) r =
      ready_weaken i (suc (key x)) (drop k l) (omega (arith, r.0)) (ready_drop (suc (key x)) k l r.2)

  -- the row x at j, of as many as to, is the first of those that are left
  module _ (d : A) (to : ℕ) (l : List A) (j i : ℕ) (x : A) (f : to ≡ length l) (h : j < to) (e : x ≡ get_or l j d) (r : Ready key n i (drop j l)) where
    row : Ready key n i (x ∷ drop (j + 1) l)
    row = subst (Ready key n i) (row_left d l j x (omega arith) e) r

    pub row_low : i ≤ key x
    row_low = row.0

    pub row_high : key x < n
    row_high = row.1

module _ {A : Type 0} (key : A → ℕ) (word : A → ℕ → ℕ) (cap : Cap) where
  -- the distance to the row after, as an entry holds it
  next_row : (d : A) (to : ℕ) (l : List A) (j k : ℕ) (x y : A) → to ≡ length l → j < to → x ≡ get_or l j d → k ≡ row_after j to → y ≡ get_or l k d
      → capped cap (key y - key x) ≡ next_of key cap x (drop (j + 1) l)
  unfolding next_of
  next_row d to l j k x y f h e g q =
      ⊎_elim
      (λ (b : j + 1 < to). rw (row_left d l (j + 1) y (omega arith) (q ∙ ap (λ (z : ℕ). get_or l z d) (after_more j to k b g))))
      (λ (b : to ≤ j + 1).
      let s : y ≡ x = q ∙ ap (λ (z : ℕ). get_or l z d) (after_last j to k b g) ∙ sym e in
      let z : key y - key x ≡ 0 = rw s (omega arith) in
      rw (z, drop_of_length-le l {i = j + 1} (omega arith)) (omega (arith, capped_le cap 0)))
      (lt_or_ge (j + 1) to)

  module _ (n : ℕ) where
    -- an entry below every row is blank, that of the first row is its word, and one above it is that of a later row
    chain_below : (i : ℕ) (l : List A) → Ready key n (suc i) l → chain_word key word cap l i ≡ 0
    unfolding chain_word
    chain_below i [] r = refl
    chain_below i (x ∷ l) r =
        rw (ne_eqb (key x) i (omega (arith, r.0)))
        (chain_below i l (ready_weaken key n (suc i) (suc (key x)) l (omega (arith, r.0)) r.2))

    chain_here : (x : A) (l : List A) → chain_word key word cap (x ∷ l) (key x) ≡ word x (next_of key cap x l)
    unfolding chain_word
    chain_here x l = rw (eq-eqb (key x) (key x) refl)

    chain_later : (x : A) (l : List A) (i : ℕ) → key x < i → chain_word key word cap (x ∷ l) i ≡ chain_word key word cap l i
    unfolding chain_word
    chain_later x l i h = rw (ne_eqb (key x) i (omega arith))

    chain_end : (i : ℕ) → chain_word key word cap [] i ≡ 0
    unfolding chain_word
    chain_end i = refl

    module _ (l : List A) (s₀ : List ℕ) (at : ℕ) where
      -- a loop that writes the n entries of the rows l: the entries below i are written, and left are the rows whose entries are not
      pub record Writing (left : List A) (s : List ℕ) (i : ℕ) : Type 0 where
        pub inside : i ≤ n
        pub same : length s ≡ length s₀
        pub ready : Ready key n i left
        pub words : (x : ℕ) → i ≤ x → chain_word key word cap l x ≡ chain_word key word cap left x
        pub done : s ≡ put_at s₀ at (table_of (chain_word key word cap l) i)

      pub write_start : Ready key n 0 l → Writing l s₀ 0
      write_start r = record {
        inside = omega arith;
        same = refl;
        ready = r;
        words = λ x h. refl;
        done = table_none (chain_word key word cap l) s₀ at;
      }

      module _ (room : Room (length s₀) at n) (s t : List ℕ) (i : ℕ) where
        write_turn : (left : List A) (x : A) (rest : List A) (w : ℕ) → left ≡ x ∷ rest → Writing left s i → w ≡ word x (next_of key cap x rest)
            → length t ≡ length s → t ≡ put_at s (at + i * 8) (table_of blank (key x - i) ++ bytes_of 8 w) → Writing rest t (key x + 1)
        unfolding table_of
        write_turn left x rest w e v f l' q =
            let r : Ready key n i (x ∷ rest) = subst (Ready key n i) e v.ready in
            let low = r.0 in
            let high = r.1 in
            let m = key x - i in
            let c : (y : ℕ) → i ≤ y → chain_word key word cap l y ≡ chain_word key word cap (x ∷ rest) y =
            λ y h. v.words y h ∙ ap (λ (z : List A). chain_word key word cap z y) e in
            let u : ℕ → ℕ = λ y. chain_word key word cap l (i + y) in
            let a : i + m ≡ key x = omega arith in
            let b : i + (m + 1) ≡ key x + 1 = omega arith in
            let g : u m ≡ w = ap (chain_word key word cap l) a ∙ c (key x) low ∙ chain_here x rest ∙ sym f in
            let o : table_of u m ≡ table_of blank m =
            table_same u blank m (λ y h. c (i + y) (omega arith) ∙ chain_below (i + y) (x ∷ rest) (omega arith, r.1, r.2)) in
            let p : t ≡ put_at s (at + i * 8) (table_of u (m + 1)) = rw (add-one, o, g) q in
            record {
              inside = omega arith;
              same = l' ∙ v.same;
              ready = rw add-one r.2;
              words = λ y h. c y (omega arith) ∙ chain_later x rest y (omega arith);
              done =
                  table_more (chain_word key word cap l) u i (m + 1) s₀ s t at (omega arith) (λ y h. refl) v.done p
                  ∙ ap (λ (y : ℕ). put_at s₀ at (table_of (chain_word key word cap l) y)) b;
            }

        -- the same, of the row x at j, with the row y after it and the distance o
        pub write_row : (d : A) (to : ℕ) (a : List A) (j k o w : ℕ) (x y : A) → to ≡ length a → j < to → Writing (drop j a) s i → x ≡ get_or a j d
            → k ≡ row_after j to → y ≡ get_or a k d → o ≡ capped cap (key y - key x) → w ≡ word x o → length t ≡ length s
            → t ≡ put_at s (at + i * 8) (table_of blank (key x - i) ++ bytes_of 8 w) → Writing (drop (j + 1) a) t (key x + 1)
        write_row d to a j k o w x y f h v e g p u z l' q =
            write_turn (drop j a) x (drop (j + 1) a) w (row_left d a j x (omega arith) e) v (z ∙ ap (word x) (u ∙ next_row d to a j k x y f h e g p)) l' q

        pub write_end : (to : ℕ) (a : List A) (j : ℕ) → to ≡ length a → to ≤ j → Writing (drop j a) s i → t ≡ put_at s (at + i * 8) (table_of blank (n - i))
            → t ≡ put_at s₀ at (table_of (chain_word key word cap l) n)
        write_end to a j f g v q =
            let h = v.inside in
            let b : i + (n - i) ≡ n = omega arith in
            let e : drop j a ≡ [] = drop_of_length-le a {i = j} (omega arith) in
            table_more (chain_word key word cap l) blank i (n - i) s₀ s t at (omega arith)
            (λ y _. v.words (i + y) (omega arith) ∙ ap (λ (z : List A). chain_word key word cap z (i + y)) e ∙ chain_end (i + y)) v.done q
            ∙ ap (λ (y : ℕ). put_at s₀ at (table_of (chain_word key word cap l) y)) b
