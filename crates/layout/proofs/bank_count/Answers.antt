-- `layout::bank_count` meets its contract. Assumes nothing.
use mathlib.Core.Path.{ap, ◌∙◌}
use Rattle.guest.specs.Machine.{shared_count}
use Rattle.layout.proofs.InPlace.{bank_count}
use Rattle.layout.proofs.bank_count.Goals as goal

pub returns : goal.returns
returns c = c.shared_count.ensures ∙ ap shared_count c.get64.ensures.is ∙ bank_count _
