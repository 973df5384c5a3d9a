use Prim.Native.Nat.{ℕ}
use mathlib.Core.Path.{◌≡◌, sym, ap, ◌∙◌}
use mathlib.Core.Bool.{true}
use lib.Dec.{leb}
use borrow.Author.Rules.{rules}
use borrow.Author.Tests.{le-leb, lt-leb}
use Rattle.maplayout.specs.MapLayout.{map_counts_ok}
use Rattle.maplayout.proofs.map_counts_ok.Goals.{then-get64-le32, else-get64-le32}
use Rattle.maplayout.proofs.map_counts_ok.Goals as goal

pub returns-then-get64-le16 : goal.returns-then-get64-le16
unfolding map_counts_ok
returns-then-get64-le16 c =
    elim c.if-get64-le32.branch [
      | then-get64-le32 w ↦
          let b : leb w.get64-then-get64-le32.result 16 ≡ true = sym w.value-is ∙ c.if-get64-le16.true in
          rw (← c.get64.ensures.is, le-leb _ _ w.if-get64-le32.true, ← w.get64-then-get64-le32.ensures.is, b)
          (ap (λ (n : ℕ). leb n 1024) c.get64-then-get64-le16.ensures.is)
      | else-get64-le32 w ↦ let a = w.value-is in let b = c.if-get64-le16.true in search rules
    ]

pub returns-else-get64-le16 : goal.returns-else-get64-le16
unfolding map_counts_ok
returns-else-get64-le16 c =
    elim c.if-get64-le32.branch [
      | then-get64-le32 w ↦
          let b = sym w.value-is ∙ c.if-get64-le16.false in
          rw (← c.get64.ensures.is, le-leb _ _ w.if-get64-le32.true, ← w.get64-then-get64-le32.ensures.is, b) c.if-get64-le16.false
      | else-get64-le32 w ↦
          let b = lt-leb _ _ w.if-get64-le32.false in
          rw (← c.get64.ensures.is, b) (w.value-is ∙ b)
    ]
