-- The words in other words than the definitions': fields as quotients and remainders, fresh and trimmed words as numbers, the two tests as what
-- they ask. Assumes nothing.
use Prim.Native.Nat.{ℕ, ◌+◌, ◌-◌, ◌/◌, ◌%◌, ◌<◌, ◌^◌}
use native.Mathlib.Omega.{arith}
use mathlib.Core.Path.{◌≡◌, refl, ap, ap₂, ◌∙◌}
use mathlib.Core.Bool.{Bool, true, false, ◌&&◌, not, and-eq-true_iff}
use mathlib.Core.Logic.{◌↔◌}
use lib.Dec.{eqb, ltb}
use borrow.Author.Tests.{eq-eqb, ne_eqb, eqb-true, eqb-false, lt-ltb, ltb-true, not-true}
use Rattle.lists.specs.Rows.{choose}
use Rattle.fields.specs.Field.{get_field, put_field}
use Rattle.fields.proofs.Laws.{get_put, get_above, get_below, put_keeps}
use Rattle.xicswords.specs.Word.{destination, priority, level, masked, pending, pending_priority, ipi_priority, source_number, current_priority, narrow, paired, trimmed, is_trimmed, fresh_server, fresh_source, delivers}

-- ---- fields: 4,294,967,296 is 2^32, 1,099,511,627,776 is 2^40, 16,777,216 is 2^24, 72,057,594,037,927,936 is 2^56

module _ (w : ℕ) where
  pub destination_is : destination w ≡ w % 4294967296
  unfolding get_field
  destination_is = omega arith

  pub priority_is : priority w ≡ w / 4294967296 % 256
  unfolding get_field
  priority_is = refl

  pub level_is : level w ≡ w / 1099511627776 % 2
  unfolding get_field
  level_is = refl

  pub masked_is : masked w ≡ w / 2199023255552 % 2
  unfolding get_field
  masked_is = refl

  pub pending_is : pending w ≡ w / 4398046511104 % 2
  unfolding get_field
  pending_is = refl

  pub pending_priority_is : pending_priority w ≡ w / 65536 % 256
  unfolding get_field
  pending_priority_is = refl

  pub ipi_priority_is : ipi_priority w ≡ w / 16777216 % 256
  unfolding get_field
  ipi_priority_is = refl

  pub source_number_is : source_number w ≡ w / 4294967296 % 16777216
  unfolding get_field
  source_number_is = refl

  pub current_priority_is : current_priority w ≡ w / 72057594037927936 % 256
  unfolding get_field
  current_priority_is = refl

  -- bits 15:0
  pub low_bits : get_field w 0 16 ≡ w % 65536
  unfolding get_field
  low_bits = omega arith

  -- no bit above 42
  pub narrow_is : narrow w ≡ ltb w 8796093022208
  narrow_is = refl

-- ---- the two tests

pub paired_to : (v : ℕ) → paired v ≡ true → (source_number v ≡ 0) ↔ (pending_priority v ≡ 255)
unfolding paired
paired_to v h = by (eqb (source_number v) 0) refl h
  where
    by : (b : Bool) → eqb (source_number v) 0 ≡ b → choose b (eqb (pending_priority v) 255) (not (eqb (pending_priority v) 255)) ≡ true
        → (source_number v ≡ 0) ↔ (pending_priority v ≡ 255)
    by true e g = (λ _. eqb-true _ 255 g, λ _. eqb-true _ 0 e)
    by false e g = (λ q. absurd (eqb-false _ 0 e q), λ q. absurd (eqb-false _ 255 (not-true _ g) q))

pub paired_from : (v : ℕ) → (source_number v ≡ 0) ↔ (pending_priority v ≡ 255) → paired v ≡ true
unfolding paired
paired_from v f = by (eqb (source_number v) 0) refl
  where
    by : (b : Bool) → eqb (source_number v) 0 ≡ b → choose b (eqb (pending_priority v) 255) (not (eqb (pending_priority v) 255)) ≡ true
    by true e = eq-eqb _ 255 (f.0 (eqb-true _ 0 e))
    by false e = ap not (ne_eqb (pending_priority v) 255 (λ q. eqb-false _ 0 e (f.1 q)))

pub record Delivered (w v : ℕ) : Type 0 where
  pub waits : pending w ≡ 1
  pub unmasked : masked w ≡ 0
  pub below : priority w < current_priority v

module _ (w v : ℕ) where
  pub delivers_to : delivers w v ≡ true → Delivered w v
  unfolding delivers
  delivers_to h =
      let a = (and-eq-true_iff (eqb (pending w) 1) (eqb (masked w) 0 && ltb (priority w) (current_priority v))).0 h in
      let b = (and-eq-true_iff (eqb (masked w) 0) (ltb (priority w) (current_priority v))).0 a.1 in
      record { waits = eqb-true _ 1 a.0; unmasked = eqb-true _ 0 b.0; below = ltb-true _ _ b.1 }

  pub delivers_from : Delivered w v → delivers w v ≡ true
  unfolding delivers
  delivers_from d = rw (eq-eqb (pending w) 1 d.waits, eq-eqb (masked w) 0 d.unmasked, lt-ltb (priority w) (current_priority v) d.below)

-- ---- the word of a server just registered

pub fresh_server_lem : fresh_server ≡ 0x00000000FFFF0000
unfolding put_field
fresh_server_lem = refl

-- it is one that is taken, and its bits 15:0 are 0
pub fresh_paired : paired fresh_server ≡ true
unfolding paired put_field get_field
fresh_paired = refl

pub fresh_trimmed : is_trimmed fresh_server ≡ true
unfolding put_field get_field
fresh_trimmed = refl

-- ---- the word of a source just registered with server d

module _ (d : ℕ) (h : d < 2 ^ 32) where
  pub fresh_source_lem : fresh_source d ≡ 0x000002FF00000000 + d
  unfolding put_field
  fresh_source_lem = omega arith

  -- the number of a server is its own bits 31:0
  low_all : get_field d 0 32 ≡ d
  unfolding get_field
  low_all = omega arith

  -- it names its server, and has no bit above 42
  pub fresh_destination : destination (fresh_source d) ≡ d
  fresh_destination = get_below (put_field d 32 8 255) 41 1 1 0 32 (omega arith) ∙ get_below d 32 8 255 0 32 (omega arith) ∙ low_all

  pub fresh_narrow : fresh_source d < 2 ^ 43
  fresh_narrow = put_keeps (put_field d 32 8 255) 41 1 1 43 (put_keeps d 32 8 255 43 (omega arith) (omega arith) (omega arith)) (omega arith) (omega arith)

-- ---- a server's word with bits 15:0 made 0

module _ (v : ℕ) where
  pub trim_is : trimmed v ≡ v - v % 65536
  unfolding put_field
  trim_is = omega arith

  -- it is taken where v is, its bits 15:0 are 0, and it is a word where v is
  pub trim_paired : paired (trimmed v) ≡ paired v
  unfolding paired
  trim_paired =
      ap₂ (λ (x y : ℕ). choose (eqb x 0) (eqb y 255) (not (eqb y 255)))
      (get_above v 0 16 0 32 24 (omega arith) (omega arith))
      (get_above v 0 16 0 16 8 (omega arith) (omega arith))

  pub trim_trimmed : is_trimmed (trimmed v) ≡ true
  trim_trimmed = eq-eqb _ 0 (get_put v 0 16 0 (omega arith))

  pub trim_narrow : v < 2 ^ 64 → trimmed v < 2 ^ 64
  trim_narrow h = put_keeps v 0 16 0 64 h (omega arith) (omega arith)
