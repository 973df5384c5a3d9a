-- INTIDs 1,020 to 1,023 (§4.17), in a guest whose last bank fits its 28 interrupts: they read 0, and what is written to one is not stored.
-- Assumes nothing.
use Prim.Native.Nat.{ℕ, ◌-◌, ◌/◌, ◌%◌, ◌^◌, ◌≤◌, ◌<◌}
use native.Mathlib.Omega.{arith}
use mathlib.Core.Path.{◌≡◌, refl, ap, ◌∙◌}
use mathlib.Core.Bool.{Bool, true, false}
use mathlib.Core.List.{List}
use lib.ListN.{length, get_or, set}
use lib.Dec.{ltb, eqb, lit<}
use borrow.Author.Tests.{le-ltb}
use Rattle.lists.specs.Rows.{choose}
use Rattle.guest.specs.declared.Bank.{Bank}
use Rattle.guest.specs.Machine.{Reading}
use Rattle.guest.specs.Machine.{Machine, Result, no_bank, bank_bits, with_shared}
use Rattle.guest.specs.Words.{BankFits}
use Rattle.guest.proofs.Anchors.{bits_past}
use Rattle.banks.specs.Bank.{pending, raised, lowered, lined, trimmed}
use Rattle.banks.proofs.Fits.{pending_past, raised_past, lowered_past, lined_past}
use Rattle.irqs.specs.declared.Spot.TheVariants.{Shared, Absent}
use Rattle.irqs.specs.declared.Register.TheVariants.{Latch, Zero}
use Rattle.irqs.specs.Spots.{shared_spot, spot_of, bank_of, with_bank}
use Rattle.irqs.specs.Irqs.{irq_fault, irq_pending, irq_set, irq_clear, irq_line, changed, change_irq}
use Rattle.irqs.specs.Registers.{distributor_register, register_fault, offset_of, vintid_of, get_group1, group7_fault, level_spot, get_group7}
use Rattle.irqs.proofs.Lists.{set_same, choose_by}

abbrev Small : Reading → Type 0
Small r = r.number < 2 ^ 28

-- the word beside the latch word reads 0
pub zero_word : (m : Machine) (attribute width : ℕ) → offset_of attribute ≡ 0x2FC → (get_group1 attribute width m).number < 2 ^ 28
unfolding get_group1 distributor_register
zero_word m attribute width e = rw e (choose_by Small (eqb (register_fault Zero width m) 0) (λ q. lit< tt) (λ q. lit< tt))

module _ (m : Machine) (f : BankFits (bank_bits 30) (get_or m.shared 30 no_bank)) where
  abbrev last : Bank
  last = get_or m.shared 30 no_bank

  none_fits : BankFits (bank_bits 30) no_bank
  unfolding bank_bits
  none_fits = record { latch = lit< tt; level = lit< tt; trigger = lit< tt }

  -- the last bank, or none where the count is less
  pub bank_fits_lem : BankFits (bank_bits 30) (bank_of (shared_spot 31 m) m)
  unfolding shared_spot
  bank_fits_lem = by (ltb 30 (length m.shared))
    where
      by : (b : Bool) → BankFits (bank_bits 30) (bank_of (choose b (Shared 30) Absent) m)
      by true = f
      by false = none_fits

  -- the words that groups 1 and 7 read of it
  pub latch_word : (attribute width : ℕ) → offset_of attribute ≡ 0x27C → (get_group1 attribute width m).number < 2 ^ 28
  unfolding get_group1 distributor_register bank_bits
  latch_word attribute width e =
      rw e (choose_by Small (eqb (register_fault (Latch 31) width m) 0) (λ q. bank_fits_lem.latch) (λ q. lit< tt))

  pub level_word_lem : (attribute width : ℕ) → vintid_of attribute ≡ 992 → (get_group7 attribute width m).number < 2 ^ 28
  unfolding get_group7 level_spot bank_bits
  level_word_lem attribute width e =
      rw e (choose_by Small (eqb (group7_fault attribute width m) 0) (λ q. bank_fits_lem.level) (λ q. lit< tt))

  store_none : (b : Bank) → trimmed (bank_bits 30) b ≡ last → with_bank (Shared 30) b m ≡ m
  store_none b e = ap (λ (l : List Bank). with_shared l m) (ap (set m.shared 30) e ∙ set_same m.shared 30 no_bank)

  module _ (k intid : ℕ) (l : 1020 ≤ intid) (u : intid ≤ 1023) where
    past : bank_bits 30 ≤ intid % 32
    past = let e : intid / 32 - 1 ≡ 30 = omega arith in rw e at (bits_past intid (omega arith) l u)

    spot : spot_of k intid m ≡ shared_spot 31 m
    unfolding spot_of
    spot = let e : intid / 32 ≡ 31 = omega arith in rw (le-ltb intid 32 (omega arith), e)

    pub pending_none : (irq_pending k intid m).number ≡ 0
    unfolding irq_pending
    pending_none = rw spot (by (eqb (irq_fault k intid m) 0))
      where
        by : (b : Bool) → (choose {A = Reading} b (record { errno = 0; number = pending (bank_of (shared_spot 31 m) m) (intid % 32) }) (record { errno = irq_fault k intid m; number = 0 })).number ≡ 0
        by true = pending_past (bank_bits 30) (bank_of (shared_spot 31 m) m) bank_fits_lem (intid % 32) past
        by false = refl

    changed_none : (g : Bank → Bank) → trimmed (bank_bits 30) (g last) ≡ last → changed k intid g m ≡ m
    unfolding shared_spot
    changed_none g e = rw spot (by (ltb 30 (length m.shared)))
      where
        by : (b : Bool) → let s = choose b (Shared 30) Absent in with_bank s (g (bank_of s m)) m ≡ m
        by true = store_none (g last) e
        by false = refl

    change_none : (g : Bank → Bank) → trimmed (bank_bits 30) (g last) ≡ last → (change_irq k intid g m).next ≡ m
    change_none g e = choose_by (λ (r : Result). r.next ≡ m) (eqb (irq_fault k intid m) 0) (λ q. changed_none g e) (λ q. refl)

    pub set_none : (irq_set k intid m).next ≡ m
    unfolding irq_set
    set_none = change_none (raised (intid % 32)) (raised_past (bank_bits 30) last f (intid % 32) past)

    pub clear_none : (irq_clear k intid m).next ≡ m
    unfolding irq_clear
    clear_none = change_none (lowered (intid % 32)) (lowered_past (bank_bits 30) last f (intid % 32) past)

    pub line_none : (level : ℕ) → (irq_line k intid level m).next ≡ m
    unfolding irq_line
    line_none level =
        choose_by (λ (r : Result). r.next ≡ m) (eqb (irq_fault k intid m) 0)
        (λ q. choose_by (λ (r : Result). r.next ≡ m) (ltb 1 level) (λ a. refl)
        (λ a. choose_by (λ (r : Result). r.next ≡ m) (ltb intid 16) (λ b. refl)
        (λ b. changed_none (lined (intid % 32) level) (lined_past (bank_bits 30) last f (intid % 32) past level))))
        (λ q. refl)
