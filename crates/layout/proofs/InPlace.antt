-- Rows read where they lie in the bytes are the rows that the bytes stand for. Assumes nothing.
use Prim.Native.Nat.{ℕ, ◌+◌, ◌*◌, ◌<◌, ◌≤◌}
use mathlib.Core.Path.{◌≡◌, sym, ap, ◌∙◌, subst}
use mathlib.Core.List.{List}
use lib.ListN.{length, get_or, take, drop}
use lib.Seq.{drop-drop}
use Rattle.words.specs.Words.{le_at, rows_of}
use Rattle.words.proofs.Rows.{length-rows_of, get_d-rows_of}
use Rattle.guest.specs.declared.Region.{Region}
use Rattle.guest.specs.declared.Vcpu.{Vcpu}
use Rattle.guest.specs.declared.Bank.{Bank}
use Rattle.guest.specs.Machine.{no_region, no_vcpu, no_bank, shared_count}
use Rattle.layout.specs.Layout.{region_of, vcpu_of, bank_of, decode, Counted}
use Rattle.layout.proofs.Counts.{counts}

-- row i of n rows of z bytes from index at
pub row_read : {A : Type 0} (p : List ℕ → A) (z n at : ℕ) (s : List ℕ) (i : ℕ) (d r : A) → i < n → r ≡ p (take z (drop (at + i * z) s))
    → r ≡ get_or (rows_of p z n (drop at s)) i d
row_read {A} p z n at s i d r h e = e ∙ ap (λ (t : List ℕ). p (take z t)) (sym (drop-drop (i * z) at s)) ∙ sym (get_d-rows_of p z n (drop at s) i d h)

-- an index below the length of n rows is below n
pub row_below : {A : Type 0} (p : List ℕ → A) (z n : ℕ) (s : List ℕ) (i : ℕ) → i < length (rows_of p z n s) → i < n
row_below p z n s i h = subst (λ (k : ℕ). i < k) (length-rows_of p z n s) h

module _ (s : List ℕ) where
  pub region_count : le_at s 168 8 ≡ length (decode s).regions
  unfolding decode
  region_count = sym (length-rows_of region_of 16 (le_at s 168 8) (drop 184 s))

  pub vcpu_count : le_at s 176 8 ≡ length (decode s).vcpus
  unfolding decode
  vcpu_count = sym (length-rows_of vcpu_of 20 (le_at s 176 8) (drop 696 s))

  pub bank_count : shared_count (le_at s 40 8) ≡ length (decode s).shared
  unfolding decode
  bank_count = sym (length-rows_of bank_of 12 (shared_count (le_at s 40 8)) (drop 1976 s))

  pub regions_few : Counted s → length (decode s).regions ≤ 32
  regions_few c = subst (λ (k : ℕ). k ≤ 32) region_count (counts s c.counts).regions

  pub vcpus_few : Counted s → length (decode s).vcpus ≤ 64
  vcpus_few c = subst (λ (k : ℕ). k ≤ 64) vcpu_count (counts s c.counts).vcpus

  pub banks_few : Counted s → length (decode s).shared ≤ 31
  banks_few c = subst (λ (k : ℕ). k ≤ 31) bank_count (counts s c.counts).shared

  pub region_read : (i : ℕ) (r : Region) → i < length (decode s).regions → r ≡ region_of (take 16 (drop (184 + i * 16) s)) → r ≡ get_or (decode s).regions i no_region
  unfolding decode
  region_read i r h e = row_read region_of 16 (le_at s 168 8) 184 s i no_region r (row_below region_of 16 (le_at s 168 8) (drop 184 s) i h) e

  pub vcpu_read : (i : ℕ) (r : Vcpu) → i < length (decode s).vcpus → r ≡ vcpu_of (take 20 (drop (696 + i * 20) s)) → r ≡ get_or (decode s).vcpus i (no_vcpu 0)
  unfolding decode
  vcpu_read i r h e = row_read vcpu_of 20 (le_at s 176 8) 696 s i (no_vcpu 0) r (row_below vcpu_of 20 (le_at s 176 8) (drop 696 s) i h) e

  pub bank_read : (i : ℕ) (r : Bank) → i < length (decode s).shared → r ≡ bank_of (take 12 (drop (1976 + i * 12) s)) → r ≡ get_or (decode s).shared i no_bank
  unfolding decode
  bank_read i r h e =
      let n = shared_count (le_at s 40 8) in
      row_read bank_of 12 n 1976 s i no_bank r (row_below bank_of 12 n (drop 1976 s) i h) e
