use mathlib.Core.Path.{◌≡◌}
use Rattle.std.proofs.Common.{rules, Err}
use Rattle.calls.proofs.Laws.{checked, parts, box_kept, look_refuses, look_answers}
use Rattle.calls.proofs.look.Goals as goal

pub returns-in_err-check : goal.returns-in_err-check
returns-in_err-check c =
    let e = c.in_err-check.field-0.0 in
    let back : c.from_residual.result ≡ Err e = search rules in
    look_refuses c.args.device c.args.event _ e back c.in_err-check.ensures

pub load_guest-requires : goal.load_guest-requires
load_guest-requires c = let k = checked _ c.in_ok-check.ensures in (k.0, (parts _ k.1).counts)

pub load_mapping-requires : goal.load_mapping-requires
load_mapping-requires c = let k = checked _ c.in_ok-check.ensures in (k.0, (parts _ k.1).map_counts_lem)

pub look_up-requires : goal.look_up-requires
look_up-requires c = box_kept _ (checked _ c.in_ok-check.ensures).1 _ _ c.load_guest.ensures c.load_mapping.ensures

pub returns : goal.returns
returns c =
    look_answers c.args.device c.args.event _ c.look_up.result c.in_ok-check.ensures c.load_guest.result c.load_guest.ensures.0
    c.load_mapping.result c.load_mapping.ensures.0 c.look_up.ensures
