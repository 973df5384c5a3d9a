-- `lines::put_ended` meets its contract. Assumes nothing.
use Rattle.lines.proofs.Laws.{ended}
use Rattle.lines.proofs.put_ended.Goals as goal

pub returns : goal.returns
returns g c = ended _ _ _ _ _ _ c.put_text.ensures c.push.ensures.items
