-- What a bank does (§4.1, §4.4 to §4.6), bit by bit, in plain arithmetic: bit i of a word is word / 2 ^ i % 2. Interrupt i is edge where
-- bit i of the trigger word is 1, and level-sensitive where it is 0. Assumes nothing.
use Prim.Native.Nat.{ℕ, ◌≤◌}
use native.Mathlib.Omega.{arith}
use mathlib.Core.Path.{◌≡◌, refl, sym, ◌∙◌}
use mathlib.Core.Logic.{◌↔◌, ◌≢◌, ◌⊎◌, inl, inr, ⊎_elim}
use mathlib.Core.Bool.{Bool, true, false, ◌&&◌}
use lib.Dec.{ltb, eqb}
use borrow.Author.Tests.{eqb-true, eqb-false, ltb-true, ltb-false}
use Rattle.lists.specs.Rows.{choose}
use Rattle.fields.specs.Field.{get_field, put_field}
use Rattle.fields.proofs.Laws.{get_put, get_above, get_below}
use Rattle.guest.specs.declared.Bank.{Bank}
use Rattle.guest.proofs.Anchors.{bit_at}
use Rattle.banks.specs.Bank.{pending, raised, lowered, rises, lined}

-- all bits but bit i are the same in both words
abbrev pub SameBut : ℕ → ℕ → ℕ → Type 0
SameBut i word word' = (j : ℕ) → j ≢ i → bit_at word' j ≡ bit_at word j

-- a field of one bit is that bit
field_bit : (word i : ℕ) → get_field word i 1 ≡ bit_at word i
unfolding get_field
field_bit word i = refl

put_bit : (word i v : ℕ) → v ≤ 1 → bit_at (put_field word i 1 v) i ≡ v
put_bit word i v h = sym (field_bit (put_field word i 1 v) i) ∙ get_put word i 1 v (omega arith)

put_other : (word i v : ℕ) → v ≤ 1 → SameBut i word (put_field word i 1 v)
put_other word i v h j n = sym (field_bit (put_field word i 1 v) j) ∙ by (ltb i j) refl ∙ field_bit word j
  where
    by : (t : Bool) → ltb i j ≡ t → get_field (put_field word i 1 v) j 1 ≡ get_field word j 1
    by true e = let l = ltb-true i j e in get_above word i 1 v j 1 (omega arith) (omega arith)
    by false e = let l = ltb-false i j e in get_below word i 1 v j 1 (omega (arith, n))

module _ (b : Bank) (i : ℕ) where
  -- an edge interrupt is pending by its latch
  pub edge_pending : bit_at b.trigger i ≡ 1 → pending b i ≡ bit_at b.latch i
  unfolding pending get_field
  edge_pending e = rw e

  -- a level one reads 1 where its latch or its line is 1, else 0
  pub level_pending : bit_at b.trigger i ≡ 0 → pending b i ≡ 1 ↔ (bit_at b.latch i ≡ 1) ⊎ (bit_at b.level i ≡ 1)
  unfolding pending get_field
  level_pending e = rw e (by (eqb (bit_at b.latch i) 1) refl)
    where
      by : (t : Bool) → eqb (bit_at b.latch i) 1 ≡ t → choose t 1 (bit_at b.level i) ≡ 1 ↔ (bit_at b.latch i ≡ 1) ⊎ (bit_at b.level i ≡ 1)
      by true q = (λ p. inl (eqb-true (bit_at b.latch i) 1 q), λ p. refl)
      by false q = (λ p. inr p, ⊎_elim (λ p. absurd (eqb-false (bit_at b.latch i) 1 q p)) (λ p. p))

  pub level_quiet : bit_at b.trigger i ≡ 0 → bit_at b.latch i ≡ 0 → bit_at b.level i ≡ 0 → pending b i ≡ 0
  unfolding pending get_field
  level_quiet e p q = rw (e, p) q

  -- the guest's set makes the latch bit 1, its clear 0, and nothing else changes
  pub set_latches : bit_at (raised i b).latch i ≡ 1
  unfolding raised
  set_latches = put_bit b.latch i 1 (omega arith)

  pub clear_unlatches : bit_at (lowered i b).latch i ≡ 0
  unfolding lowered
  clear_unlatches = put_bit b.latch i 0 (omega arith)

  pub set_leaves : SameBut i b.latch (raised i b).latch × ((raised i b).level ≡ b.level) × ((raised i b).trigger ≡ b.trigger)
  unfolding raised
  set_leaves = (put_other b.latch i 1 (omega arith), refl, refl)

  pub clear_leaves : SameBut i b.latch (lowered i b).latch × ((lowered i b).level ≡ b.level) × ((lowered i b).trigger ≡ b.trigger)
  unfolding lowered
  clear_leaves = (put_other b.latch i 0 (omega arith), refl, refl)

  -- a line change stores its level, of either kind; the levels and latches of other interrupts and every trigger stay
  pub line_stores : (level : ℕ) → level ≤ 1 → bit_at (lined i level b).level i ≡ level
  unfolding lined
  line_stores level h = put_bit b.level i level h

  pub line_leaves : (level : ℕ) → level ≤ 1
      → SameBut i b.level (lined i level b).level × SameBut i b.latch (lined i level b).latch × ((lined i level b).trigger ≡ b.trigger)
  unfolding lined raised
  line_leaves level h = (put_other b.level i level h, λ j n. latch (rises i level b) j n, trigger (rises i level b))
    where
      latch : (t : Bool) → SameBut i b.latch (choose t (raised i b) b).latch
      latch true j n = put_other b.latch i 1 (omega arith) j n
      latch false j n = refl

      trigger : (t : Bool) → (choose t (raised i b) b).trigger ≡ b.trigger
      trigger true = refl
      trigger false = refl

  -- an edge interrupt whose line rises is latched
  pub edge_rise : bit_at b.trigger i ≡ 1 → bit_at b.level i ≡ 0 → bit_at (lined i 1 b).latch i ≡ 1
  unfolding lined get_field
  edge_rise e z = rw (e, z) set_latches

  -- no other line change alters a latch: not one of a level interrupt, not one of a line that is up already, not a fall
  pub level_line : (level : ℕ) → bit_at b.trigger i ≡ 0 → (lined i level b).latch ≡ b.latch
  unfolding lined get_field
  level_line level e = rw e

  pub line_up : (level : ℕ) → bit_at b.level i ≡ 1 → (lined i level b).latch ≡ b.latch
  unfolding lined get_field
  line_up level e = rw e (by (eqb (bit_at b.trigger i) 1))
    where
      by : (t : Bool) → (choose (t && false) (raised i b) b).latch ≡ b.latch
      by true = refl
      by false = refl

  pub fall : (lined i 0 b).latch ≡ b.latch
  unfolding lined get_field
  fall = by (eqb (bit_at b.trigger i) 1) (eqb (bit_at b.level i) 0)
    where
      by : (t u : Bool) → (choose (t && (u && false)) (raised i b) b).latch ≡ b.latch
      by true true = refl
      by true false = refl
      by false u = refl
