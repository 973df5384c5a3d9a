-- `explain::text::early` meets its contract. Assumes nothing.
use mathlib.Core.Path.{ap, ◌∙◌}
use mathlib.Core.List.{List, ◌++◌}
use Prim.Native.Nat.{ℕ}
use Rattle.lines.specs.Text.{ascii}
use Rattle.explain.specs.Explained.{early}
use Rattle.explain.proofs.text.early.Goals as goal

pub returns : goal.returns
unfolding early
returns c =
    c.put_text.ensures.is ∙ ap (λ (l : List ℕ). l ++ ascii "before any table is read\n") c.refused-out.ensures.0
