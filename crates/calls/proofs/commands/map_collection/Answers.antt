use mathlib.Core.Path.{◌≡◌}
use Rattle.std.proofs.Common.{rules, Err}
use Rattle.calls.proofs.Boxes.{gated, tried_refused, tried}
use Rattle.guest.specs.Machine.{view}
use Rattle.mapping.specs.Mapped.{rows}
use Rattle.calls.proofs.commands.map_collection.Goals as goal

pub returns-in_err-check_ready : goal.returns-in_err-check_ready
returns-in_err-check_ready c =
    let e = c.in_err-check_ready.field-0.0 in
    let back : c.from_residual.result ≡ Err e = search rules in
    gated _ (view c.args.g) (rows c.args.k) e back c.in_err-check_ready.ensures

pub map_collection-requires : goal.map_collection-requires
map_collection-requires c = c.requires

pub returns-in_err-mapping : goal.returns-in_err-mapping
returns-in_err-mapping c =
    let e = c.in_err-mapping.field-0.0 in
    let back : c.from_residual-in_err-mapping.result ≡ Err e = search rules in
    tried_refused _ (view c.args.g) (rows c.args.k) e back c.in_ok-check_ready.ensures c.in_err-mapping.ensures

pub returns : goal.returns
returns c = tried _ c.args.g (rows c.args.k) c.in_ok-mapping.mapping c.requires.guest.held c.in_ok-check_ready.ensures c.in_ok-mapping.ensures
