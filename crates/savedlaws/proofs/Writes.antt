-- Areas of memory that are written one after the other: no other byte changes, and areas apart each hold what was written there.
use Prim.Native.Nat.{ℕ, ◌+◌, ◌-◌, ◌≤◌, ◌<◌, min, max}
use native.Mathlib.Nat.{add-zero}
use native.Mathlib.Omega.{arith}
use mathlib.Core.Path.{◌≡◌, refl, sym, ap, ◌∙◌}
use mathlib.Core.Bool.{true, false, not}
use mathlib.Core.Logic.{⊎_elim}
use mathlib.Core.List.{List, [], ◌∷◌, ◌++◌, map, append_assoc}
use lib.ListN.{length, get_or, take, drop, length-take, length-drop, get_or-append}
use lib.Seq.{length-take-le, take_at, get_or-take, get_or-drop, ext_get_or}
use borrow.Author.Tests.{ltb-false, not-true}
use Rattle.lists.proofs.All.{All, none, more, all_append, all_take, all_drop}
use Rattle.words.specs.Words.{put_at}
use Rattle.words.proofs.Bytes.{Bytes}
use Rattle.words.proofs.Laws.{length-put_at, drop-put_at-here, drop-put_at-past}
use Rattle.areas.specs.declared.Area.{Area}
use Rattle.areas.specs.Area.{overlaps, struck, strikes, apart, end_of}
use Rattle.areas.proofs.Tests.{lt_or_ge, and_left, and_right, or_left, or_right}
use Rattle.areas.proofs.Has.{has, has_cons}
use Rattle.lists.proofs.Member.{all_weaker, map_all}

-- one store

module _ (s : List ℕ) (at : ℕ) (bs : List ℕ) (fits : at + length bs ≤ length s) where
  put_here : take (length bs) (drop at (put_at s at bs)) ≡ bs
  put_here = rw (drop-put_at-here s at bs (omega arith)) (take_at bs (drop (at + length bs) s) (length bs) refl)

  put_other : (i : ℕ) → i < length s → (at ≤ i → i < at + length bs → ⊥) → get_or (put_at s at bs) i 0 ≡ get_or s i 0
  unfolding put_at
  put_other i h n = ⊎_elim
      (λ (l : i < at).
      let e = length-take-le at s (omega arith) in
      rw (append_assoc (take at s) bs (drop (at + length bs) s))
      (get_or-append (take at s) (bs ++ drop (at + length bs) s) 0 i (omega arith) ∙ get_or-take at s i 0 l))
      (λ (l : at ≤ i). ⊎_elim
      (λ g. absurd (n l g))
      (λ g.
      ap (λ (j : ℕ). get_or (put_at s at bs) j 0) (sym (add-zero i)) ∙ sym (get_or-drop i (put_at s at bs) 0 0)
      ∙ ap (λ (t : List ℕ). get_or t 0 0) (drop-put_at-past s at bs i g (omega arith))
      ∙ get_or-drop i s 0 0 ∙ ap (λ (j : ℕ). get_or s j 0) (add-zero i))
      (lt_or_ge i (at + length bs)))
      (lt_or_ge i at)

put_bytes : (s : List ℕ) (at : ℕ) (bs : List ℕ) → Bytes s → Bytes bs → Bytes (put_at s at bs)
unfolding put_at
put_bytes s at bs p q = all_append (take at s ++ bs) (all_append (take at s) (all_take at s p) q) (all_drop (at + length bs) s p)

-- areas

-- an address is in an area
pub record Holds (a : Area) (x : ℕ) : Type 0 where
  pub low : a.start ≤ x
  pub high : x < end_of a

common : (a b : Area) (x : ℕ) → overlaps a b ≡ false → Holds a x → Holds b x → ⊥
unfolding overlaps
common a b x e p q = omega (arith, ltb-false (max a.start b.start) (min (end_of a) (end_of b)) e)

-- an area before areas apart overlaps none of them
apart_first : (a : Area) (l : List Area) → apart (a ∷ l) ≡ true → All (λ b. overlaps a b ≡ false) l
unfolding apart strikes struck
apart_first a l e = by l (not-true (strikes l a) (and_left (not (strikes l a)) _ e))
  where
    by : (l : List Area) → has (overlaps a) l ≡ false → All (λ b. overlaps a b ≡ false) l
    by [] e = none
    by (b ∷ l) e =
        let f = sym (has_cons (overlaps a) b l) ∙ e in
        more (or_left _ _ f) (by l (or_right (overlaps a b) _ f))

apart_rest : (a : Area) (l : List Area) → apart (a ∷ l) ≡ true → apart l ≡ true
unfolding apart
apart_rest a l e = and_right (not (strikes l a)) _ e

-- what is written where
pub record Write : Type 0 where
  pub area : Area
  pub bytes : List ℕ

-- in memory that starts at start
module _ (start : ℕ) where
  -- the bytes of an area
  abbrev part : List ℕ → Area → List ℕ
  part mem a = take a.size (drop (a.start - start) mem)

  pub part_same : (mem mem' : List ℕ) (a : Area) → start ≤ a.start → length mem ≡ length mem'
      → ((i : ℕ) → i < length mem → Holds a (start + i) → get_or mem i 0 ≡ get_or mem' i 0) → part mem a ≡ part mem' a
  part_same mem mem' a low e f =
      let at = a.start - start in
      ext_get_or 0 (part mem a) (part mem' a) (simp (length-take, length-drop) (rw e))
      (λ i h.
      let r = simp (length-take, length-drop) at h in
      let g : i < a.size = omega arith in
      get_or-take a.size (drop at mem) i 0 g ∙ get_or-drop at mem i 0
      ∙ f (at + i) (omega arith) (record { low = omega arith; high = omega arith })
      ∙ sym (get_or-drop at mem' i 0) ∙ sym (get_or-take a.size (drop at mem') i 0 g))

  unfoldable pub written : List Write → List ℕ → List ℕ
  written [] mem = mem
  written (w ∷ ws) mem = written ws (put_at mem (w.area.start - start) w.bytes)

  -- a write fits n bytes of memory, and fills its area
  pub record Fits (n : ℕ) (w : Write) : Type 0 where
    pub low : start ≤ w.area.start
    pub high : end_of w.area ≤ start + n
    pub whole : length w.bytes ≡ w.area.size

  module _ (n : ℕ) where
    put_length : (w : Write) (mem : List ℕ) → length mem ≡ n → Fits n w → length (put_at mem (w.area.start - start) w.bytes) ≡ n
    put_length w mem e f = length-put_at mem (w.area.start - start) w.bytes (omega arith) ∙ e

    pub written_length : (ws : List Write) (mem : List ℕ) → length mem ≡ n → All (Fits n) ws → length (written ws mem) ≡ n
    unfolding written
    written_length [] mem e none = e
    written_length (w ∷ ws) mem e (more f fs) = written_length ws _ (put_length w mem e f) fs

    pub written_other : (ws : List Write) (mem : List ℕ) (i : ℕ) → length mem ≡ n → All (Fits n) ws → i < n
        → All (λ w. Holds w.area (start + i) → ⊥) ws → get_or (written ws mem) i 0 ≡ get_or mem i 0
    unfolding written
    written_other [] mem i e none h none = refl
    written_other (w ∷ ws) mem i e (more f fs) h (more x xs) =
        let at = w.area.start - start in
        written_other ws (put_at mem at w.bytes) i (put_length w mem e f) fs h xs
        ∙ put_other mem at w.bytes (omega arith) i (omega arith)
        (λ l g. x (record { low = omega arith; high = omega arith }))

    -- an area that no write overlaps is as it was
    written_apart : (ws : List Write) (mem : List ℕ) (a : Area) → length mem ≡ n → All (Fits n) ws → start ≤ a.start → end_of a ≤ start + n
        → All (λ w. overlaps a w.area ≡ false) ws → part (written ws mem) a ≡ part mem a
    written_apart ws mem a e fs low high ns =
        part_same (written ws mem) mem a low (written_length ws mem e fs ∙ sym e)
        (λ i _ h. written_other ws mem i e fs (omega arith) (all_weaker (λ w o g. common a w.area (start + i) o h g) ws ns))

    pub written_holds : (ws : List Write) (mem : List ℕ) → length mem ≡ n → All (Fits n) ws → apart (map (λ w. w.area) ws) ≡ true
        → All (λ w. part (written ws mem) w.area ≡ w.bytes) ws
    unfolding written
    written_holds [] mem e none c = none
    written_holds (w ∷ ws) mem e (more f fs) c =
        let at = w.area.start - start in
        let mem' = put_at mem at w.bytes in
        let e' = put_length w mem e f in
        let areas = map (λ (v : Write). v.area) ws in
        more
        (written_apart ws mem' w.area e' fs f.low f.high (map_all (λ v. v.area) ws (apart_first w.area areas c))
        ∙ ap (λ (z : ℕ). take z (drop at mem')) (sym f.whole)
        ∙ put_here mem at w.bytes (omega arith))
        (written_holds ws mem' e' fs (apart_rest w.area areas c))

  pub written_bytes : (ws : List Write) (mem : List ℕ) → All (λ w. Bytes w.bytes) ws → Bytes mem → Bytes (written ws mem)
  unfolding written
  written_bytes [] mem none b = b
  written_bytes (w ∷ ws) mem (more p ps) b = written_bytes ws _ ps (put_bytes mem (w.area.start - start) w.bytes b p)
