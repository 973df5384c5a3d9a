use mathlib.Core.Path.{◌≡◌, sym, ap, ◌∙◌}
use mathlib.Core.Bool.{true}
use lib.Dec.{leb}
use Prim.Native.Nat.{ℕ}
use borrow.Author.Rules.{rules}
use borrow.Author.Tests.{le-leb, lt-leb}
use Rattle.guest.specs.Machine.{shared_count}
use Rattle.layout.specs.Layout.{counts_ok}
use Rattle.layout.proofs.counts_ok.Goals.{then-get64-le32, else-get64-le32}
use Rattle.layout.proofs.counts_ok.Goals as goal

pub returns-then-get64-le64 : goal.returns-then-get64-le64
unfolding counts_ok
returns-then-get64-le64 c =
    elim c.if-get64-le32.branch [
      | then-get64-le32 w ↦
          let b : leb w.get64-then-get64-le32.result 64 ≡ true = sym w.value-is ∙ c.if-get64-le64.true in
          rw (← c.get64.ensures.is, le-leb _ _ w.if-get64-le32.true, ← w.get64-then-get64-le32.ensures.is, b)
          (ap (λ (n : ℕ). leb n 31) (c.shared_count.ensures ∙ ap shared_count c.get64-then-get64-le64.ensures.is))
      | else-get64-le32 w ↦ let a = w.value-is in let b = c.if-get64-le64.true in search rules
    ]

pub returns-else-get64-le64 : goal.returns-else-get64-le64
unfolding counts_ok
returns-else-get64-le64 c =
    elim c.if-get64-le32.branch [
      | then-get64-le32 w ↦
          let b = sym w.value-is ∙ c.if-get64-le64.false in
          rw (← c.get64.ensures.is, le-leb _ _ w.if-get64-le32.true, ← w.get64-then-get64-le32.ensures.is, b) c.if-get64-le64.false
      | else-get64-le32 w ↦
          let b = lt-leb _ _ w.if-get64-le32.false in
          rw (← c.get64.ensures.is, b) (w.value-is ∙ b)
    ]
