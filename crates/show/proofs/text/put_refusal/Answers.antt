-- `show::text::put_refusal` meets its contract. Assumes nothing.
use mathlib.Core.Path.{ap, ◌∙◌}
use Rattle.lines.proofs.Laws.{at_start}
use Rattle.show.specs.Shown.{refusal}
use Rattle.show.proofs.text.put_refusal.Goals as goal

pub returns : goal.returns
unfolding refusal
returns c = at_start c.clear.ensures c.put_line.ensures ∙ ap refusal c.number.ensures
