use Rattle.calls.proofs.step.Goals as goal

pub returns-in-AddVcpu : goal.returns-in-AddVcpu
returns-in-AddVcpu c = rw c.in-AddVcpu.is c.add_vcpu.ensures

pub returns-in-Start : goal.returns-in-Start
returns-in-Start c = rw c.in-Start.is c.set_running.ensures

pub returns-in-Stop : goal.returns-in-Stop
returns-in-Stop c = rw c.in-Stop.is c.set_running-in-Stop.ensures

pub returns-in-VgicSet : goal.returns-in-VgicSet
returns-in-VgicSet c = rw c.in-VgicSet.is c.vgic_set.ensures

pub returns-in-ItsSet : goal.returns-in-ItsSet
returns-in-ItsSet c = rw c.in-ItsSet.is c.its_set.ensures

pub returns-in-SetPending : goal.returns-in-SetPending
returns-in-SetPending c = rw c.in-SetPending.is c.irq_set.ensures

pub returns-in-ClearPending : goal.returns-in-ClearPending
returns-in-ClearPending c = rw c.in-ClearPending.is c.irq_clear.ensures

pub returns-in-Activate : goal.returns-in-Activate
returns-in-Activate c = rw c.in-Activate.is c.irq_clear-in-Activate.ensures

pub returns-in-Line : goal.returns-in-Line
returns-in-Line c = rw c.in-Line.is c.irq_line.ensures

pub returns-in-Trigger : goal.returns-in-Trigger
returns-in-Trigger c = rw c.in-Trigger.is c.irq_trigger.ensures
