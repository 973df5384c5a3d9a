use mathlib.Core.Path.{◌≡◌, refl, ◌∙◌}
use mir.Syntax.{w64}
use mir.Val.{to_z, of_z}
use Rattle.std.proofs.Common.{rules}
use Rattle.calls.proofs.sign.Goals as goal

pub returns-in-Ok : goal.returns-in-Ok
returns-in-Ok c = rw c.in-Ok.is refl

pub returns-in-Err : goal.returns-in-Err
returns-in-Err c =
    let t : to_z w64 (of_z w64 c.refusal.result) ≡ c.refusal.result = search rules in
    rw c.in-Err.is (t ∙ c.refusal.ensures)
