-- `its::move_event` meets its contract. Assumes nothing.
use native.Mathlib.Omega.{arith}
use mathlib.Core.Bool.{true}
use mathlib.Core.Path.{◌≡◌}
use lib.Seq.{get_or-take}
use Rattle.std.proofs.lemmas.Grind.{common_steps}
use Rattle.mapping.specs.Commands.{has_event, has_collection}
use Rattle.mapping.specs.Mapped.{rows}
use Rattle.its.proofs.Numbers.{collection_below}
use Rattle.its.proofs.Steps.{accepts, moved, stands}
use Rattle.its.proofs.move_event.Goals as goal

pub overflow_cast-e : goal.overflow_cast-e
overflow_cast-e c =
    let collection : has_collection c.args.icid (rows c.args.k) ≡ true = grind (arith, common_steps, stands) in
    omega (arith, collection_below _ _ c.requires.collections collection)

pub returns : goal.returns
returns c =
    let event : has_event c.args.device c.args.event (rows c.args.k) ≡ true = grind (arith, common_steps, stands) in
    let collection : has_collection c.args.icid (rows c.args.k) ≡ true = grind (arith, common_steps, stands) in
    rw (moved _ _ _ (rows c.args.k) event collection, ← c.find_event-at.ensures, get_or-take _ _ _ _ c.if-k-at.false) (accepts c.set_event.ensures)
