-- `explain::text::described` meets its contract. Assumes nothing.
use Rattle.lines.proofs.Laws.{at_start}
use Rattle.explain.proofs.text.described.Goals as goal

pub returns : goal.returns
returns c = at_start c.new-out.ensures c.put_text.ensures
