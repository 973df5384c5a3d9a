use mathlib.Core.Path.{◌≡◌}
use Rattle.std.proofs.Common.{rules, Err}
use Rattle.calls.proofs.Laws.{checked, parts, guest_kept, step_refuses, settles}
use Rattle.calls.proofs.apply_tested.Goals as goal

pub load_guest-requires : goal.load_guest-requires
load_guest-requires c = let k = checked _ c.requires in (k.0, (parts _ k.1).counts)

pub step-requires : goal.step-requires
step-requires c = guest_kept _ (checked _ c.requires).1 _ c.load_guest.ensures

pub returns-in_err-next : goal.returns-in_err-next
returns-in_err-next c =
    let e = c.in_err-next.field-0.0 in
    let back : c.from_residual.result ≡ Err e = search rules in
    step_refuses c.args.c _ c.requires c.load_guest.result c.load_guest.ensures.0 e back c.in_err-next.ensures

pub returns : goal.returns
returns c = settles c.args.c _ c.requires c.load_guest.result c.load_guest.ensures.0 c.in_ok-next.next _ c.in_ok-next.ensures c.store_guest.ensures
