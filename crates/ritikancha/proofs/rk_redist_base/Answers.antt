use Rattle.ritikancha.proofs.Asked.{told_small, redist_number, bytes_from}
use Rattle.ritikancha.proofs.rk_redist_base.Goals as goal

pub tell-requires : goal.tell-requires
tell-requires c = told_small c.ask.result c.ask.ensures (redist_number _ _ (bytes_from _ (λ k. (c.type_inv.state k).fits)))
