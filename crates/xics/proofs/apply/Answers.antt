-- `xics::apply` meets its contract. Assumes nothing.
use mathlib.Core.Path.{◌≡◌, ◌∙◌}
use mir.Syntax.{w64}
use mir.Val.{to_z, of_z}
use borrow.Author.Rules.{rules}
use Rattle.xics.proofs.Laws.{gives_0, gives_errno}
use Rattle.xics.proofs.apply.Goals as goal

pub returns-in-Ok : goal.returns-in-Ok
returns-in-Ok c = gives_0 _ _ _ c.in-Ok.ensures

pub returns-in-Err : goal.returns-in-Err
returns-in-Err c =
    let t : to_z w64 (of_z w64 c.refusal.result) ≡ c.refusal.result = search rules in
    gives_errno _ _ _ _ _ c.in-Err.ensures (t ∙ c.refusal.ensures)
