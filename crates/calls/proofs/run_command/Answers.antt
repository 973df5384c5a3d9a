use mathlib.Core.Path.{◌≡◌}
use Rattle.std.proofs.Common.{rules, Err}
use Rattle.calls.proofs.Laws.{checked, command_refuses, command_fails, command_settles}
use Rattle.calls.proofs.run_command.Goals as goal

pub returns-in_err-check : goal.returns-in_err-check
returns-in_err-check c =
    let e = c.in_err-check.field-0.0 in
    let back : c.from_residual.result ≡ Err e = search rules in
    command_refuses c.args.c _ e back c.in_err-check.ensures

pub performed-requires : goal.performed-requires
performed-requires c = checked _ c.in_ok-check.ensures

pub returns-in_err-next : goal.returns-in_err-next
returns-in_err-next c =
    let e = c.in_err-next.field-0.0 in
    let back : c.from_residual-in_err-next.result ≡ Err e = search rules in
    command_fails c.args.c _ c.in_ok-check.ensures e back c.in_err-next.ensures

pub store_contents-requires : goal.store_contents-requires
store_contents-requires c = let h = c.in_ok-next.ensures.held in ((checked _ c.in_ok-check.ensures).0, h.0, h.1)

pub returns : goal.returns
returns c = command_settles c.args.c _ c.in_ok-check.ensures c.in_ok-next.next _ c.in_ok-next.ensures c.store_contents.ensures
