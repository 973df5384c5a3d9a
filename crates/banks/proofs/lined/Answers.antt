use mathlib.Core.Path.{sym, ◌∙◌}
use Rattle.banks.specs.Bank.{lined}
use Rattle.banks.proofs.lined.Goals as goal

pub returns-then-rises : goal.returns-then-rises
unfolding lined
returns-then-rises c =
    let up = sym c.rises.ensures ∙ c.if-rises.true in
    rw (up, ← c.raised.ensures, ← c.field_put-word.ensures) c.with_level.ensures

pub returns : goal.returns
unfolding lined
returns c =
    let up = sym c.rises.ensures ∙ c.if-rises.false in
    rw (up, ← c.field_put-word.ensures) c.with_level-2.ensures
