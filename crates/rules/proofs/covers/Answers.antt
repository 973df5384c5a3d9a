-- `rules::covers` meets its contract. The loop's invariant: what is left of the number fits into what is left of the regions where the
-- whole fits. Assumes nothing.
use mathlib.Core.Path.{sym, ◌∙◌}
use Rattle.rules.proofs.Rows.{no_region, covers_here, covers_later, covers_end}
use Rattle.rules.proofs.covers.Goals as goal

pub returns-then-left-row : goal.returns-then-left-row
returns-then-left-row c = sym (c.loop-row.invariant ∙ covers_here _ _ no_region _ c.loop-row-test.true c.if-left-row.true)

pub loop-row-preserved : goal.loop-row-preserved
loop-row-preserved c = c.loop-row.invariant ∙ covers_later _ _ no_region _ c.loop-row-test.true c.if-left-row.false

pub returns : goal.returns
returns c = sym (c.loop-row.invariant ∙ covers_end _ _ _ c.loop-row-test.false)
