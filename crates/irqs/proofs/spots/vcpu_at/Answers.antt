use native.Mathlib.Omega.{arith}
use Rattle.irqs.proofs.Lists.{row_at}
use Rattle.irqs.proofs.SpotLaws.{vcpu_within}
use Rattle.irqs.proofs.spots.vcpu_at.Goals as goal

pub offset_bounds-vcpus-k : goal.offset_bounds-vcpus-k
offset_bounds-vcpus-k c = omega (arith, vcpu_within c.args.g c.requires.0 c.args.k c.requires.1)

pub bounds-vcpus-k : goal.bounds-vcpus-k
bounds-vcpus-k c = vcpu_within c.args.g c.requires.0 c.args.k c.requires.1

pub returns : goal.returns
returns c = row_at c.args.g.vcpus.count c.args.g.vcpus.rows c.args.k c.requires.1 _ _
