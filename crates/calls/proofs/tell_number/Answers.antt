-- `calls::tell_number` meets its contract. Assumes nothing.
use mathlib.Core.Path.{◌≡◌, ◌∙◌}
use mir.Syntax.{w64}
use mir.Val.{to_z, of_z}
use borrow.Author.Tests.{eq-eqb, ne_eqb}
use Rattle.std.proofs.Common.{rules}
use Rattle.calls.proofs.tell_number.Goals as goal

pub returns-then-errno-ne0 : goal.returns-then-errno-ne0
returns-then-errno-ne0 c =
    let t : to_z w64 (of_z w64 c.refuse.result) ≡ c.refuse.result = search rules in
    rw (ne_eqb _ _ c.if-errno-ne0.true) (t ∙ c.refuse.ensures)

pub returns : goal.returns
returns c =
    let t : to_z w64 (of_z w64 c.done.result) ≡ c.done.result = search rules in
    rw (eq-eqb _ _ c.if-errno-ne0.false) (t ∙ c.done.ensures)
