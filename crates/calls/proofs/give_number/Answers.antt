-- `calls::give_number` meets its contract. Assumes nothing.
use mathlib.Core.Path.{◌≡◌, ◌∙◌}
use mir.Syntax.{w64}
use mir.Val.{to_z, of_z}
use borrow.Author.Tests.{eq-eqb, ne_eqb}
use Rattle.std.proofs.Common.{rules}
use Rattle.calls.proofs.give_number.Goals as goal

pub returns-then-errno-ne0 : goal.returns-then-errno-ne0
returns-then-errno-ne0 c =
    let t : to_z w64 (of_z w64 c.refuse.result) ≡ c.refuse.result = search rules in
    let f = ne_eqb c.args.errno 0 c.if-errno-ne0.true in
    record { number = rw f (t ∙ c.refuse.ensures); left = rw f }

pub returns : goal.returns
returns c = let f = eq-eqb c.args.errno 0 c.if-errno-ne0.false in record { number = rw f; left = rw f c.fill.ensures }
