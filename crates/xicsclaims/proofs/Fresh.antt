-- The words of a server and of a source just registered, field by field. Assumes nothing.
use Prim.Native.Nat.{ℕ, ◌+◌, ◌%◌, ◌<◌, ◌^◌}
use native.Mathlib.Nat.{div-eq_of_lt}
use native.Mathlib.Omega.{arith}
use mathlib.Core.Path.{◌≡◌, refl, ap, ◌∙◌}
use Rattle.fields.specs.Field.{get_field, put_field}
use Rattle.fields.proofs.Laws.{get_put, get_above, get_below}
use Rattle.xicswords.specs.Word.{fresh_source}
use Rattle.xicswords.proofs.Meaning.{fresh_source_lem, fresh_destination}
use Rattle.xicsclaims.specs.XicsClaims.{FreshServer, FreshSource}

-- a server
pub server_fields : FreshServer 0x00000000FFFF0000
unfolding get_field
server_fields = record { unused = refl; pending_priority = refl; ipi_priority = refl; source_number = refl; current_priority = refl }

-- a source, registered with server d
module _ (d : ℕ) (h : d < 2 ^ 32) where
  -- a field above bit 31 of the number of a server is 0
  high_none : (p n : ℕ) → d < 2 ^ p → get_field d p n ≡ 0 % 2 ^ n
  unfolding get_field
  high_none p n g = ap (λ (x : ℕ). x % 2 ^ n) (div-eq_of_lt g)

  -- its fields, by what was put and by what was there
  fields : FreshSource d (fresh_source d)
  fields = record {
    destination = fresh_destination d h;
    priority = get_below (put_field d 32 8 255) 41 1 1 32 8 (omega arith) ∙ get_put d 32 8 255 (omega arith);
    level = get_below (put_field d 32 8 255) 41 1 1 40 1 (omega arith) ∙ get_above d 32 8 255 40 1 (omega arith) (omega arith) ∙ high_none 40 1 (omega arith);
    masked = get_put (put_field d 32 8 255) 41 1 1 (omega arith);
    pending = get_above (put_field d 32 8 255) 41 1 1 42 1 (omega arith) (omega arith) ∙ get_above d 32 8 255 42 1 (omega arith) (omega arith) ∙ high_none 42 1 (omega arith);
    above = get_above (put_field d 32 8 255) 41 1 1 43 21 (omega arith) (omega arith) ∙ get_above d 32 8 255 43 21 (omega arith) (omega arith) ∙ high_none 43 21 (omega arith);
  }

  pub source_fields : FreshSource d (0x000002FF00000000 + d)
  source_fields = rw (fresh_source_lem d h) at fields
