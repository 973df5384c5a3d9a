-- The loop that moves the collections from an index on up by one: those before j are in place, and carry goes to j. Assumes nothing.
use Prim.Native.Nat.{ℕ, suc, ◌+◌, ◌-◌, ◌*◌, ◌≤◌, ◌<◌}
use native.Mathlib.Omega.{arith}
use mathlib.Core.Path.{◌≡◌, sym, ap, ap₂, ◌∙◌, subst}
use mathlib.Core.List.{List, ◌∷◌}
use lib.ListN.{length, get_or, take, drop, length-drop}
use lib.Seq.{take_all, get_or-drop, length-take-le}
use Rattle.words.specs.Words.{put_at, bytes_all}
use Rattle.words.proofs.Laws.{drop-put_at-past}
use Rattle.words.proofs.Rows.{length-bytes_all, Storing, store_start, store_turn, store_end}
use Rattle.layout.specs.Layout.{size}
use Rattle.mapping.specs.declared.Collection.{Collection}
use Rattle.mapping.specs.Mapped.{no_collection}
use Rattle.maplayout.specs.MapLayout.{collection_of, collection_bytes, decode_map, Counted}
use Rattle.maplayout.specs.Sizes.{collection_sized}
use Rattle.maplayout.proofs.InPlace.{collection_read}

module _ (s₀ : List ℕ) (i n : ℕ) (c : Collection) where
  abbrev rows : List Collection
  rows = c ∷ drop i (decode_map s₀).collections

  pub record Shifting (s : List ℕ) (carry : Collection) (j : ℕ) : Type 0 where
    pub low : i ≤ j
    pub high : j ≤ n
    pub stored : Storing collection_bytes 4 collection_sized (n - i + 1) s₀ (3144 + i * 4) rows s (j - i)
    pub next : carry ≡ get_or rows (j - i) no_collection

  module _ (k : Counted s₀) (h : i ≤ n) (e : n ≡ length (decode_map s₀).collections) (f : n < 16) where
    long : length rows ≡ n - i + 1
    long = let d = length-drop i (decode_map s₀).collections in omega arith

    fits : 3144 + i * 4 + (n - i + 1) * 4 ≤ length s₀
    fits = let l = k.long in omega arith

    pub shift_start : Shifting s₀ c i
    shift_start =
        let z : i - i ≡ 0 = omega arith in
        let l = long in
        record {
          low = omega arith;
          high = h;
          stored = rw z (store_start collection_bytes 4 collection_sized (n - i + 1) s₀ (3144 + i * 4) rows no_collection fits (omega arith));
          next = rw z;
        }

    module _ (s : List ℕ) (carry : Collection) (j : ℕ) (v : Shifting s carry j) where
      pub same : length s ≡ size
      same = v.stored.same ∙ k.long

      -- the carried row goes to j
      put : (t : List ℕ) → length t ≡ length s → t ≡ put_at s (3144 + j * 4) (collection_bytes carry)
          → Storing collection_bytes 4 collection_sized (n - i + 1) s₀ (3144 + i * 4) rows t (j - i + 1)
      put t q p =
          let a = v.low in
          let b = v.high in
          let at : 3144 + j * 4 ≡ 3144 + i * 4 + (j - i) * 4 = omega arith in
          store_turn collection_bytes 4 collection_sized (n - i + 1) s₀ (3144 + i * 4) rows no_collection fits s t (j - i) (omega arith) q
          (p ∙ ap₂ (λ (x : ℕ) (y : Collection). put_at s x (collection_bytes y)) at v.next) v.stored

      -- what lies from j on is as it was
      past : j ≤ n → drop (3144 + j * 4) s ≡ drop (3144 + j * 4) s₀
      past b =
          let a = v.low in
          let l = k.long in
          let m = long in
          let t : length (take (j - i) rows) ≡ j - i = length-take-le (j - i) rows (omega arith) in
          let u = length-bytes_all collection_bytes 4 collection_sized (take (j - i) rows) in
          ap (drop (3144 + j * 4)) v.stored.rows
          ∙ drop-put_at-past s₀ (3144 + i * 4) (bytes_all collection_bytes (take (j - i) rows)) (3144 + j * 4) (omega arith) (omega arith)

      pub shift_turn : j < n → (row : Collection) → row ≡ collection_of (take 4 (drop (3144 + j * 4) s))
          → (t : List ℕ) → length t ≡ length s → t ≡ put_at s (3144 + j * 4) (collection_bytes carry) → Shifting t row (j + 1)
      shift_turn g row r t q p =
          let a = v.low in
          let x : j - i + 1 ≡ j + 1 - i = omega arith in
          let y : j + 1 - i ≡ suc (j - i) = omega arith in
          let w : i + (j - i) ≡ j = omega arith in
          let l = (decode_map s₀).collections in
          record {
            low = omega arith;
            high = omega arith;
            stored = subst (Storing collection_bytes 4 collection_sized (n - i + 1) s₀ (3144 + i * 4) rows t) x (put t q p);
            next =
                collection_read s₀ j row (omega arith) (r ∙ ap (λ (z : List ℕ). collection_of (take 4 z)) (past (omega arith)))
                ∙ ap (λ (z : ℕ). get_or l z no_collection) (sym w) ∙ sym (get_or-drop i l (j - i) no_collection)
                ∙ ap (λ (z : ℕ). get_or rows z no_collection) (sym y);
          }

      pub shift_end : n ≤ j → (t : List ℕ) → length t ≡ length s → t ≡ put_at s (3144 + n * 4) (collection_bytes carry)
          → t ≡ put_at s₀ (3144 + i * 4) (bytes_all collection_bytes rows)
      shift_end g t q p =
          let b = v.high in
          let z : n ≡ j = omega arith in
          let l = long in
          store_end collection_bytes 4 collection_sized (n - i + 1) s₀ (3144 + i * 4) rows no_collection fits t (j - i + 1) (omega arith)
          (put t q (p ∙ ap (λ (x : ℕ). put_at s (3144 + x * 4) (collection_bytes carry)) z))
          ∙ ap (λ (x : List Collection). put_at s₀ (3144 + i * 4) (bytes_all collection_bytes x)) (take_all (n - i + 1) rows (omega arith))
