use native.Mathlib.Omega.{arith}
use Rattle.irqs.proofs.Lists.{row_at}
use Rattle.irqs.proofs.SpotLaws.{shared_within}
use Rattle.irqs.proofs.spots.shared_at.Goals as goal

pub offset_bounds-shared-j : goal.offset_bounds-shared-j
offset_bounds-shared-j c = omega (arith, shared_within c.args.g c.requires.0 c.args.j c.requires.1)

pub bounds-shared-j : goal.bounds-shared-j
bounds-shared-j c = shared_within c.args.g c.requires.0 c.args.j c.requires.1

pub returns : goal.returns
returns c = row_at c.args.g.shared.count c.args.g.shared.rows c.args.j c.requires.1 _ _
