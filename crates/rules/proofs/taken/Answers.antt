-- `rules::taken` meets its contract. Assumes nothing.
use mathlib.Core.Path.{◌∙◌}
use Rattle.rules.proofs.Rows.{taken_any}
use Rattle.rules.proofs.taken.Goals as goal

pub returns : goal.returns
returns c = c.any_has.ensures ∙ taken_any _ _
