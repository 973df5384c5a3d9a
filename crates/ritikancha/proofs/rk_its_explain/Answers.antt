use Rattle.ritikancha.proofs.rk_its_explain.Goals as goal

pub tell-requires : goal.tell-requires
tell-requires c = c.explain.ensures.small
