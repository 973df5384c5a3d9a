use Rattle.ritikancha.proofs.Asked.{told_small, look_number}
use Rattle.ritikancha.proofs.rk_its_lookup.Goals as goal

pub tell-requires : goal.tell-requires
tell-requires c = told_small c.look.result c.look.ensures (look_number _ _ _)
