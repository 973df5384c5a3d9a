-- `layout::vcpu_count` meets its contract. Assumes nothing.
use mathlib.Core.Path.{◌∙◌}
use Rattle.layout.proofs.InPlace.{vcpu_count}
use Rattle.layout.proofs.vcpu_count.Goals as goal

pub returns : goal.returns
returns c = c.get64.ensures.is ∙ vcpu_count _
