-- An entry of the collection table (§6.3).
use Rattle.std.specs.Prelude.{ℕ, ◌^◌, ◌<◌, Bool, eqb}
use Rattle.fields.specs.Field.{get_field, put_field}
use Rattle.entries.specs.declared.CollectionEntry.{CollectionEntry}

-- Inner: what the entry has room for: 36 bits of pe, 16 bits of ICID
pub record CollectionFits (e : CollectionEntry) : Type 0 where
  pub pe : e.pe < 2 ^ 36
  pub icid : e.icid < 2 ^ 16

-- §6.3, §6.5: valid where V, bit 63, is 1
unfoldable pub is_collection : ℕ → Bool
is_collection w = eqb (get_field w 63 1) 1

-- §6.3: pe from [51:16], all 36 bits, and ICID from [15:0]. Bits [62:52] are not read (§8.8)
unfoldable pub collection_of : ℕ → CollectionEntry
collection_of w = record { pe = get_field w 16 36; icid = get_field w 0 16 }

-- §6.3: the entry as written: the same places, zero in [62:52], and V set
unfoldable pub collection_word : CollectionEntry → ℕ
collection_word e = put_field (put_field (put_field (put_field 0 0 16 e.icid) 16 36 e.pe) 52 11 0) 63 1 1
