use Rattle.calls.proofs.answer.Goals as goal

pub returns-in-VgicGet : goal.returns-in-VgicGet
returns-in-VgicGet c = rw c.in-VgicGet.is c.vgic_get.ensures

pub returns-in-ItsGet : goal.returns-in-ItsGet
returns-in-ItsGet c = rw c.in-ItsGet.is c.its_get.ensures

pub returns-in-RedistBase : goal.returns-in-RedistBase
returns-in-RedistBase c = rw c.in-RedistBase.is c.redist_base.ensures

pub returns-in-Pending : goal.returns-in-Pending
returns-in-Pending c = rw c.in-Pending.is c.irq_pending.ensures
