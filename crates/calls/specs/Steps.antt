-- Each call as a step of the machine.
use Rattle.guest.specs.Machine.{Reading}
use Rattle.guest.specs.Machine.{Machine, Result}
use Rattle.frames.specs.Vcpus.{add_vcpu, set_running}
use Rattle.frames.specs.Init.{redist_base}
use Rattle.irqs.specs.Irqs.{irq_pending, irq_set, irq_clear, irq_line, irq_trigger}
use Rattle.calls.specs.declared.Change.{Change}
use Rattle.calls.specs.declared.Change.TheVariants.{AddVcpu, Start, Stop, VgicSet, ItsSet, SetPending, ClearPending, Activate, Line, Trigger}
use Rattle.calls.specs.declared.Question.{Question}
use Rattle.calls.specs.declared.Question.TheVariants.{VgicGet, ItsGet, RedistBase, Pending}
use Rattle.calls.specs.Groups.{vgic_set, vgic_get, its_set, its_get}

-- §3.1, §3.2, §4.5, §4.6, §4.7: which step each call is that may change the guest; attributes go by their group (§2.7). §4.5: activate
-- does what clear does.
abbrev pub change_step : Change → Machine → Result
change_step (AddVcpu affinity) m = add_vcpu affinity m
change_step Start m = set_running 1 m
change_step Stop m = set_running 0 m
change_step (VgicSet group attribute width value) m = vgic_set group attribute width value m
change_step (ItsSet group attribute width value) m = its_set group attribute width value m
change_step (SetPending vcpu intid) m = irq_set vcpu intid m
change_step (ClearPending vcpu intid) m = irq_clear vcpu intid m
change_step (Activate vcpu intid) m = irq_clear vcpu intid m
change_step (Line vcpu intid level) m = irq_line vcpu intid level m
change_step (Trigger vcpu intid word) m = irq_trigger vcpu intid word m

-- §2.7, §3.13, §4.4: which question each call is that only asks
abbrev pub ask_step : Question → Machine → Reading
ask_step (VgicGet group attribute width value) m = vgic_get group attribute width value m
ask_step (ItsGet group attribute width) m = its_get group attribute width m
ask_step (RedistBase vcpu) m = redist_base vcpu m
ask_step (Pending vcpu intid) m = irq_pending vcpu intid m
