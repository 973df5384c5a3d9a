use Rattle.ritikancha.proofs.Asked.{told_small, pending_number}
use Rattle.ritikancha.proofs.rk_irq_pending.Goals as goal

pub tell-requires : goal.tell-requires
tell-requires c = told_small c.ask.result c.ask.ensures (pending_number _ _ _)
