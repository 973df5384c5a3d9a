use Rattle.guest.specs.Machine.{view}
use Rattle.irqs.specs.Registers.{affinity_of}
use Rattle.irqs.proofs.GroupLaws.{names_of}
use Rattle.irqs.proofs.groups.named_vcpu.Goals as goal

pub returns : goal.returns
returns c =
    rw c.ok_or.ensures.value
    (names_of (affinity_of c.args.attribute) (view c.args.g) c.find_vcpu.result (rw (← c.field_get.ensures) c.find_vcpu.ensures))
