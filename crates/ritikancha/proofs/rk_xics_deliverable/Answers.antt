use Rattle.ritikancha.proofs.Asked.{told_small, delivery_number}
use Rattle.ritikancha.proofs.rk_xics_deliverable.Goals as goal

pub tell-requires : goal.tell-requires
tell-requires c = told_small c.ask_delivery.result c.ask_delivery.ensures (delivery_number _ _)
