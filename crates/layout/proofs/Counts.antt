-- What the test of the counts says, and what the parts of the loaded guest give together.
use Prim.Native.Nat.{ℕ, ◌≤◌}
use mathlib.Core.Path.{◌≡◌, ap, ◌∙◌}
use mathlib.Core.Bool.{true, and-eq-true_iff}
use mathlib.Core.List.{List}
use lib.ListN.{take, drop}
use borrow.Author.Tests.{leb-true}
use Rattle.words.specs.Words.{le_at, rows_of}
use Rattle.guest.specs.declared.Memory.{Memory}
use Rattle.guest.specs.declared.Control.{Control}
use Rattle.guest.specs.declared.Frames.{Frames}
use Rattle.guest.specs.declared.Region.{Region}
use Rattle.guest.specs.declared.Bank.{Bank}
use Rattle.guest.specs.declared.Vcpu.{Vcpu}
use Rattle.guest.specs.declared.Tables.{Tables}
use Rattle.guest.specs.Machine.{Machine, shared_count}
use Rattle.layout.specs.Layout.{memory_of, control_of, frames_of, tables_of, region_of, vcpu_of, bank_of, decode, counts_ok}

pub record Counts (s : List ℕ) : Type 0 where
  pub regions : le_at s 168 8 ≤ 32
  pub vcpus : le_at s 176 8 ≤ 64
  pub shared : shared_count (le_at s 40 8) ≤ 31

pub counts : (s : List ℕ) → counts_ok s ≡ true → Counts s
unfolding counts_ok
counts s h =
    let a = (and-eq-true_iff _ _).0 h in
    let b = (and-eq-true_iff _ _).0 a.1 in
    record { regions = leb-true _ _ a.0; vcpus = leb-true _ _ b.0; shared = leb-true _ _ b.1 }

pub irqs_of : (s : List ℕ) (c : Control) → c ≡ control_of s → c.irqs ≡ le_at s 40 8
unfolding control_of
irqs_of s c e = ap (λ (x : Control). x.irqs) e

pub loaded : (s : List ℕ) (r : Memory) (c : Control) (f : Frames) (t : Tables) (rs : List Region) (vs : List Vcpu) (bs : List Bank) (i j k : ℕ)
    → r ≡ memory_of s → c ≡ control_of s → f ≡ frames_of s → t ≡ tables_of s
    → i ≡ le_at s 168 8 → j ≡ le_at s 176 8 → k ≡ shared_count (le_at s 40 8)
    → take i rs ≡ rows_of region_of 16 i (drop 184 s) → take j vs ≡ rows_of vcpu_of 20 j (drop 696 s) → take k bs ≡ rows_of bank_of 12 k (drop 1976 s)
    → ◌≡◌ {A = Machine} (record { memory = r; control = c; frames = f; regions = take i rs; vcpus = take j vs; shared = take k bs; tables = t }) (decode s)
unfolding decode
loaded s r c f t rs vs bs i j k mr mc mf mt hi hj hk hr hv hb =
    let er = hr ∙ ap (λ (n : ℕ). rows_of region_of 16 n (drop 184 s)) hi in
    let ev = hv ∙ ap (λ (n : ℕ). rows_of vcpu_of 20 n (drop 696 s)) hj in
    let eb = hb ∙ ap (λ (n : ℕ). rows_of bank_of 12 n (drop 1976 s)) hk in
    λ x. record { memory = mr x; control = mc x; frames = mf x; regions = er x; vcpus = ev x; shared = eb x; tables = mt x }
