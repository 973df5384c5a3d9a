use mathlib.Core.Path.{◌≡◌, ◌∙◌}
use mir.Syntax.{w64}
use mir.Val.{to_z, of_z}
use Rattle.std.proofs.Common.{rules}
use borrow.Author.Tests.{ne_eqb}
use Rattle.answers.specs.Number.{number}
use Rattle.guest.proofs.Returned.{number_not_0}
use Rattle.calls.proofs.tell.Goals as goal

pub returns-in-Ok : goal.returns-in-Ok
returns-in-Ok c =
    let t : to_z w64 (of_z w64 c.done.result) ≡ c.done.result = search rules in
    rw c.in-Ok.is (t ∙ c.done.ensures)

pub returns-in-Err : goal.returns-in-Err
returns-in-Err c =
    let t : to_z w64 (of_z w64 c.refusal.result) ≡ c.refusal.result = search rules in
    rw (c.in-Err.is, ne_eqb (number c.in-Err.e) 0 (number_not_0 c.in-Err.e)) (t ∙ c.refusal.ensures)
