-- `calls::store_contents` meets its contract. Assumes nothing.
use mathlib.Core.Path.{◌∙◌}
use Rattle.calls.proofs.Laws.{stored_both}
use Rattle.calls.proofs.store_contents.Goals as goal

pub store_mapping-requires : goal.store_mapping-requires
store_mapping-requires c =
    (c.store_guest.auto.s ∙ c.requires.0, c.requires.2)

pub returns : goal.returns
returns c =
    stored_both c.args.o _ _ _ c.store_guest.ensures c.store_mapping.ensures
