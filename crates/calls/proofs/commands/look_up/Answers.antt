use Rattle.mapping.proofs.Sized.{kept_sized}
use mathlib.Core.Path.{◌≡◌}
use Rattle.std.proofs.Common.{rules, Err}
use Rattle.calls.proofs.Boxes.{look_gated, look_tried}
use Rattle.guest.specs.Machine.{view}
use Rattle.mapping.specs.Mapped.{rows}
use Rattle.calls.proofs.commands.look_up.Goals as goal

pub returns-in_err-check_ready : goal.returns-in_err-check_ready
returns-in_err-check_ready c =
    let e = c.in_err-check_ready.field-0.0 in
    let back : c.from_residual.result ≡ Err e = search rules in
    look_gated _ c.args.device c.args.event (view c.args.g) (rows c.args.k) e back c.in_err-check_ready.ensures

pub lookup-requires : goal.lookup-requires
lookup-requires c = kept_sized _ _ c.requires

pub returns : goal.returns
returns c = look_tried c.lookup.result c.args.device c.args.event (view c.args.g) (rows c.args.k) c.in_ok-check_ready.ensures c.lookup.ensures
