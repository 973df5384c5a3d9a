-- `explain::text::refused` meets its contract. Assumes nothing.
use native.Mathlib.Omega.{arith}
use mathlib.Core.Path.{ap, ◌∙◌}
use mathlib.Core.List.{◌++◌, append_assoc}
use lib.ListN.{length}
use Rattle.answers.specs.Number.{number}
use Rattle.lines.specs.Text.{ascii, decimal}
use Rattle.lines.proofs.Laws.{adds_both, at_start}
use Rattle.explain.proofs.text.refused.Goals as goal

pub returns : goal.returns
returns c =
    let a = adds_both c.put_number.ensures c.put_text.ensures in (
      at_start c.new-out.ensures a
          ∙ rw c.number.ensures (append_assoc (ascii "refused -" ++ decimal (number c.args.errno)) (ascii ":") (ascii " ")),
      omega (arith, a.most, ap length c.new-out.ensures),
    )
