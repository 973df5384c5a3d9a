-- The collection table, written row by row. Assumes nothing.
use Prim.Native.Nat.{ℕ, ◌+◌, ◌-◌, ◌*◌, ◌≤◌, ◌<◌}
use native.Mathlib.Omega.{arith}
use mathlib.Core.Path.{◌≡◌, refl, sym, ap, ◌∙◌}
use mathlib.Core.List.{List}
use lib.ListN.{length, get_or}
use borrow.Author.Tests.{lt-ltb, le-ltb}
use Rattle.words.specs.Words.{bytes_of, put_at}
use Rattle.mapping.specs.declared.Collection.{Collection}
use Rattle.mapping.specs.Mapped.{no_collection}
use Rattle.tables.specs.Saved.{saved_collection, table_of}
use Rattle.save.specs.Saving.{blank, collection_entry, Room}
use Rattle.save.proofs.Tables.{table_more, entry_more, table_none}

module _ (cs : List Collection) where
  -- an entry is that of the row at its index, and those after the last row are blank
  saved_row : (j : ℕ) → j < length cs → saved_collection cs j ≡ collection_entry (get_or cs j no_collection)
  unfolding saved_collection
  saved_row j h = rw (lt-ltb j (length cs) h)

  saved_past : (j : ℕ) → length cs ≤ j → saved_collection cs j ≡ 0
  unfolding saved_collection
  saved_past j h = rw (le-ltb j (length cs) h)

-- a loop that writes the rows cs: those before i are written
pub record Listing (count : ℕ) (cs : List Collection) (s₀ : List ℕ) (at : ℕ) (s : List ℕ) (i : ℕ) : Type 0 where
  pub rows : count ≡ length cs
  pub upto : i ≤ count
  pub same : length s ≡ length s₀
  pub done : s ≡ put_at s₀ at (table_of (saved_collection cs) i)

module _ (count : ℕ) (cs : List Collection) (s₀ : List ℕ) (at : ℕ) where
  pub list_start : count ≡ length cs → Listing count cs s₀ at s₀ 0
  list_start e = record {
    rows = e;
    upto = omega arith;
    same = refl;
    done = table_none (saved_collection cs) s₀ at;
  }

  module _ (n : ℕ) (room : Room (length s₀) at n) (few : length cs ≤ n) (s t : List ℕ) where
    pub list_turn : (i w : ℕ) (c : Collection) → i < count → Listing count cs s₀ at s i → c ≡ get_or cs i no_collection
        → w ≡ collection_entry c → length t ≡ length s → t ≡ put_at s (at + i * 8) (bytes_of 8 w) → Listing count cs s₀ at t (i + 1)
    list_turn i w c h v e f l q =
        let rows = v.rows in
        record {
          rows = rows;
          upto = omega arith;
          same = l ∙ v.same;
          done =
              entry_more (saved_collection cs) (collection_entry c) i s₀ s t at (omega arith)
              (saved_row cs i (omega arith) ∙ ap collection_entry (sym e)) v.done (rw f at q);
        }

    pub list_end : (i : ℕ) → count ≤ i → Listing count cs s₀ at s i → t ≡ put_at s (at + count * 8) (table_of blank (n - count))
        → t ≡ put_at s₀ at (table_of (saved_collection cs) n)
    list_end i h v q =
        let rows = v.rows in
        let upto = v.upto in
        let e : i ≡ count = omega arith in
        let b : count + (n - count) ≡ n = omega arith in
        table_more (saved_collection cs) blank count (n - count) s₀ s t at (omega arith) (λ x _. saved_past cs (count + x) (omega arith)) (rw e at v.done) q
        ∙ ap (λ (x : ℕ). put_at s₀ at (table_of (saved_collection cs) x)) b
