-- `explain::text::fault_line` meets its contract. Assumes nothing.
use Prim.Native.Nat.{ℕ}
use mathlib.Core.Path.{◌≡◌, sym, ◌∙◌}
use mathlib.Core.List.{List, ◌++◌, append_assoc}
use Rattle.lines.specs.Text.{ascii}
use Rattle.lines.proofs.Laws.{adds_both}
use Rattle.explain.specs.Explained.{refused, fault_line}
use Rattle.explain.proofs.text.fault_line.Goals as goal

pieces : (begun : List ℕ) (n m : ℕ) (t : List ℕ) → begun ≡ refused n → n ≡ m → begun ++ (t ++ ascii "\n") ≡ refused m ++ t ++ ascii "\n"
pieces begun n m t p q = rw (p, q) (sym (append_assoc (refused m) t (ascii "\n")))

pub returns : goal.returns
unfolding fault_line
returns c =
    (adds_both c.put_met.ensures c.put_text.ensures).is ∙ pieces _ _ _ _ c.refused-out.ensures.0 c.errno.ensures
