-- A table whose entries are those of rising rows holds a chain of their keys, and each row's word with some next.
use Prim.Native.Nat.{ℕ, suc, ◌-◌, ◌/◌, ◌^◌, ◌≤◌, ◌<◌}
use native.Mathlib.Omega.{arith}
use mathlib.Core.Path.{◌≡◌, refl, ap, ◌∙◌}
use mathlib.Core.Bool.{Bool, true, false}
use mathlib.Core.List.{List, [], ◌∷◌, map}
use lib.ListN.{length}
use lib.Dec.{eqb}
use borrow.Author.Tests.{eq-eqb, ne_eqb}
use Rattle.lists.specs.Rows.{choose}
use Rattle.lists.proofs.All.{All, none, more}
use Rattle.mapping.specs.Mapped.{rising}
use Rattle.chains.specs.Slots.{Cap, capped, Slots, Link}
use Rattle.chains.proofs.Way.{capped_pos}
use Rattle.tables.specs.Bytes.{entry_at}
use Rattle.tables.specs.Saved.{next_of, chain_word, table_of}
use Rattle.described.specs.Described.{Chain, Linked}
use Rattle.lists.proofs.Member.{all_weaker}
use Rattle.savedlaws.proofs.Entries.{length-table_of, entry-table_of}
use Rattle.mapping.proofs.Rise.{Above, rising_rest, rising_above}
use Rattle.savedlaws.proofs.Rise.{rising_first, above_below}

-- a word has room for the nexts below `room`
module _ {A : Type 0} (key : A → ℕ) (word : A → ℕ → ℕ) (cap : Cap) (room : ℕ) where
  -- it has room for every distance inside a table of a given size
  abbrev Short : ℕ → Type 0
  Short size = (d : ℕ) → d < size → capped cap d < room

  next_fits : (size : ℕ) → Short size → (x : A) (l : List A) → All (λ y. key y < size) (x ∷ l) → next_of key cap x l < room
  unfolding next_of
  next_fits size short x [] (more h none) = let b = short 0 (omega arith) in omega arith
  next_fits size short x (y ∷ l) (more h (more q r)) = short (key y - key x) (omega arith)

  -- the word at a row's key, at a key further on, and at no key
  chain_here : (x : A) (l : List A) → chain_word key word cap (x ∷ l) (key x) ≡ word x (next_of key cap x l)
  unfolding chain_word
  chain_here x l = rw (eq-eqb (key x) (key x) refl)

  chain_later : (x : A) (l : List A) (j : ℕ) → key x < j → chain_word key word cap (x ∷ l) j ≡ chain_word key word cap l j
  unfolding chain_word
  chain_later x l j h = rw (ne_eqb (key x) j (omega arith))

  chain_none : (l : List A) (j : ℕ) → Above key j l → chain_word key word cap l j ≡ 0
  unfolding chain_word
  chain_none [] j none = refl
  chain_none (x ∷ l) j (more h r) = rw (ne_eqb (key x) j (omega arith)) (chain_none l j r)

  -- the entry of a row has its word, with some next
  abbrev pub Written : List ℕ → A → Type 0
  Written t x = (n : ℕ) × (n < room) × (entry_at t (key x) ≡ word x n)

  -- what is read of a word
  module _ (isValid : ℕ → Bool) (nextIn : ℕ → ℕ) where
    -- a row's word with any next that there is room for is a valid word of 8 bytes with that next
    pub record Good (x : A) : Type 0 where
      pub small : (n : ℕ) → n < room → word x n < 2 ^ 64
      pub valid : (n : ℕ) → n < room → isValid (word x n) ≡ true
      pub next : (n : ℕ) → n < room → nextIn (word x n) ≡ n

    chain_small : (size : ℕ) → Short size → (l : List A) (i : ℕ) → All Good l → All (λ y. key y < size) l → chain_word key word cap l i < 2 ^ 64
    unfolding chain_word
    chain_small size short [] i none none = omega arith
    chain_small size short (x ∷ l) i (more g r) (more h hs) = by (eqb (key x) i) (chain_small size short l i r hs)
      where
        by : (b : Bool) → chain_word key word cap l i < 2 ^ 64 → choose b (word x (next_of key cap x l)) (chain_word key word cap l i) < 2 ^ 64
        by true q = g.small (next_of key cap x l) (next_fits size short x l (more h hs))
        by false q = q

    abbrev slots : List ℕ → Slots
    slots t = record { size = length t / 8; cap = cap; valid = λ i. isValid (entry_at t i); next = λ i. nextIn (entry_at t i) }

    module _ (t : List ℕ) (short : Short (length t / 8)) where
      -- the entries from i on are those of the rows
      abbrev From : ℕ → List A → Type 0
      From i l = (j : ℕ) → i ≤ j → j < length t / 8 → entry_at t j ≡ chain_word key word cap l j

      abbrev Inside : List A → Type 0
      Inside l = All (λ x. key x < length t / 8) l

      from_rest : (i : ℕ) (x : A) (l : List A) → i ≤ key x → From i (x ∷ l) → From (suc (key x)) l
      from_rest i x l h f j p q = f j (omega arith) q ∙ chain_later x l j p

      -- each row's word
      rows : (i : ℕ) (l : List A) → All (λ x. i ≤ key x) l → rising key l ≡ true → Inside l → From i l → All (Written t) l
      rows i [] none e none f = none
      rows i (x ∷ l) (more b bs) e (more h hs) f =
          more (next_of key cap x l, next_fits (length t / 8) short x l (more h hs), f (key x) b h ∙ chain_here x l)
          (rows (suc (key x)) l (rising_above key x l e) (rising_rest key x l e) hs (from_rest i x l b f))

      module _ (blank : isValid 0 ≡ false) (pos : 0 < capped cap 1) where
        row_blank : (i : ℕ) (l : List A) (j : ℕ) → From i l → i ≤ j → j < length t / 8 → Above key j l → isValid (entry_at t j) ≡ false
        row_blank i l j f p q a = ap isValid (f j p q ∙ chain_none l j a) ∙ blank

        linked : (i : ℕ) (x : A) (l : List A) → i ≤ key x → rising key (x ∷ l) ≡ true → All Good (x ∷ l) → Inside (x ∷ l) → From i (x ∷ l)
            → Linked (slots t) (key x ∷ map key l)
        unfolding next_of
        linked i x [] b e (more g gs) (more h hs) f =
            let w = f (key x) b h ∙ chain_here x [] in
            let o = next_fits (length t / 8) short x [] (more h hs) in
            (h, ap isValid w ∙ g.valid 0 o, ap nextIn w ∙ g.next 0 o)
        linked i x (y ∷ l) b e (more g gs) (more h hs) f =
            let n = capped cap (key y - key x) in
            let w = f (key x) b h ∙ chain_here x (y ∷ l) in
            let o = next_fits (length t / 8) short x (y ∷ l) (more h hs) in
            let read : nextIn (entry_at t (key x)) ≡ n = ap nextIn w ∙ g.next n o in
            let u = rising_first key x y l e in
            let f' = from_rest i x (y ∷ l) b f in
            let e' = rising_rest key x (y ∷ l) e in
            let rest = linked (suc (key x)) y l u e' gs hs f' in
            let link : Link (slots t) (key x) (key y) = record {
              rises = u;
              inside = rest.0;
              valid = rest.1;
              next = read;
              gap = λ c j p q. row_blank (suc (key x)) (y ∷ l) j f' (omega (arith, read, capped_pos cap pos (key y - key x) (omega arith))) (omega (arith, rest.0)) (above_below key y l j e' q);
            } in
            (h, ap isValid w ∙ g.valid n o, (link, rest.2))

        chained : (l : List A) → rising key l ≡ true → All Good l → Inside l → From 0 l → Chain (slots t) (map key l)
        chained [] e none none f = record { below = λ j p q. row_blank 0 [] j f p q none; links = tt }
        chained (x ∷ l) e gs (more h hs) f = record {
          below = λ j p q. row_blank 0 (x ∷ l) j f p (omega arith) (above_below key x l j e q);
          links = linked 0 x l (omega arith) e gs (more h hs) f;
        }

    -- the table of the rows' words
    module _ (l : List A) (size : ℕ) (short : Short size) (rise : rising key l ≡ true) (good : All Good l) (small : All (λ x. key x < size) l) where
      abbrev table : List ℕ
      table = table_of (chain_word key word cap l) size

      table_size : length table / 8 ≡ size
      table_size = omega (arith, length-table_of (chain_word key word cap l) size)

      table_short : Short (length table / 8)
      table_short = rw table_size short

      table_from : From table table_short 0 l
      table_from j p q = entry-table_of (chain_word key word cap l) size j (omega (arith, table_size)) (chain_small size short l j good small)

      table_inside : Inside table table_short l
      table_inside = rw table_size small

      pub table_rows : All (Written table) l
      table_rows = rows table table_short 0 l (all_weaker (λ x h. omega arith) l small) rise table_inside table_from

      pub table_chain : isValid 0 ≡ false → 0 < capped cap 1 → Chain (slots table) (map key l)
      table_chain blank pos = chained table table_short blank pos l rise good table_inside table_from
