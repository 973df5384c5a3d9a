-- The table of rising collections holds them from entry 0, and no more.
use Prim.Native.Nat.{ℕ, ◌/◌, ◌^◌, ◌≤◌, ◌<◌}
use native.Mathlib.Omega.{arith}
use mathlib.Core.Path.{◌≡◌, refl, sym, ap, ◌∙◌}
use mathlib.Core.Bool.{Bool, true, false}
use mathlib.Core.List.{List}
use lib.ListN.{length, get_or}
use lib.Dec.{ltb}
use borrow.Author.Tests.{lt-ltb, le-ltb, ltb-true}
use Rattle.lists.specs.Rows.{choose}
use Rattle.lists.proofs.All.{All, all_at}
use Rattle.entries.specs.declared.CollectionEntry.{CollectionEntry}
use Rattle.entries.specs.Collection.{CollectionFits, is_collection, collection_of, collection_word}
use Rattle.entries.proofs.Laws.{collection_of_word, collection_word_lt, collection_word_valid, collection_zero_blank}
use Rattle.mapping.specs.declared.Collection.{Collection}
use Rattle.mapping.specs.Mapped.{collection_key, rising, no_collection}
use Rattle.tables.specs.Bytes.{entry_at}
use Rattle.tables.specs.Saved.{saved_collection, table_of}
use Rattle.tables.specs.Bytes.{collection_at}
use Rattle.described.specs.Described.{Collections}
use Rattle.lists.proofs.Member.{all_of, at_in}
use Rattle.savedlaws.proofs.Rise.{rising_index}
use Rattle.savedlaws.proofs.Entries.{length-table_of, entry-table_of}

-- a collection as an entry
abbrev pub entry_of : Collection → CollectionEntry
entry_of c = record { pe = c.pe; icid = c.icid }

module _ (cs : List Collection) (size : ℕ) (room : length cs ≤ size) (rise : rising collection_key cs ≡ true) (good : All (λ c. CollectionFits (entry_of c)) cs) where
  abbrev table : List ℕ
  table = table_of (saved_collection cs) size

  -- row i
  abbrev row : ℕ → Collection
  row i = get_or cs i no_collection

  small : (i : ℕ) → saved_collection cs i < 2 ^ 64
  unfolding saved_collection
  small i = by (ltb i (length cs)) refl
    where
      by : (b : Bool) → ltb i (length cs) ≡ b → choose b (collection_word (entry_of (row i))) 0 < 2 ^ 64
      by true e = collection_word_lt (entry_of (row i)) (all_at cs i no_collection good (ltb-true i (length cs) e))
      by false e = omega arith

  entry_here : (i : ℕ) → i < length cs → entry_at table i ≡ collection_word (entry_of (row i))
  unfolding saved_collection
  entry_here i h = entry-table_of (saved_collection cs) size i (omega arith) (small i) ∙ rw (lt-ltb i (length cs) h)

  entry_past : (i : ℕ) → length cs ≤ i → i < size → entry_at table i ≡ 0
  unfolding saved_collection
  entry_past i h g = entry-table_of (saved_collection cs) size i g (small i) ∙ rw (le-ltb i (length cs) h)

  row_back : (i : ℕ) → i < length cs → collection_at table i ≡ row i
  row_back i h =
      ap (λ (e : CollectionEntry). let c : Collection = record { icid = e.icid; pe = e.pe } in c)
      (ap collection_of (entry_here i h) ∙ collection_of_word (entry_of (row i)) (all_at cs i no_collection good h))

  pub table_collections : Collections table cs
  table_collections =
      let n : length table / 8 ≡ size = omega (arith, length-table_of (saved_collection cs) size) in
      record {
        inside = omega arith;
        valid = λ i h. ap is_collection (entry_here i h) ∙ collection_word_valid (entry_of (row i));
        stop = λ h. ap is_collection (entry_past (length cs) (omega arith) (omega arith)) ∙ collection_zero_blank;
        distinct = λ i j g h e.
            rising_index collection_key cs no_collection i j rise g h
            (ap collection_key (sym (row_back i g)) ∙ e ∙ ap collection_key (row_back j h));
        listed = λ i h. (i, h, sym (row_back i h));
        named = all_of cs (λ c i. let r = at_in cs no_collection i in (r.0, r.1, row_back r.0 r.1 ∙ r.2));
      }
