-- `its::event_fault` meets its contract. Assumes nothing.
use Prim.Native.Nat.{◌^◌, ◌<◌}
use native.Mathlib.Omega.{arith}
use mathlib.Core.Bool.{true}
use mathlib.Core.Path.{◌≡◌}
use Rattle.std.proofs.lemmas.Grind.{common_steps}
use Rattle.mapping.specs.Commands.{has_device, has_collection, device_of}
use Rattle.mapping.specs.Mapped.{rows}
use Rattle.its.proofs.Numbers.{device_below, event_below, collection_below}
use Rattle.its.proofs.Steps.{stands}
use Rattle.its.proofs.event_fault.Goals as goal

pub returns-clause-fitting : goal.returns-clause-fitting
returns-clause-fitting c =
    let device : has_device c.args.device (rows c.args.k.now) ≡ true = grind (arith, common_steps, stands) in
    let small : c.args.event < 2 ^ (device_of c.args.device (rows c.args.k.now)).bits = grind (arith, common_steps) in
    let collection : has_collection c.args.icid (rows c.args.k.now) ≡ true = grind (arith, common_steps, stands) in (
      omega arith,
      device_below _ (rows c.args.k.now) c.requires.devices device,
      event_below _ (rows c.args.k.now) c.requires.devices device _ small,
      grind (arith, common_steps),
      collection_below _ _ c.requires.collections collection,
    )
