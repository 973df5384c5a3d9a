use mathlib.Core.Path.{◌≡◌}
use Rattle.std.proofs.Common.{rules, Err}
use Rattle.calls.proofs.Laws.{refuses}
use Rattle.calls.proofs.apply.Goals as goal

pub returns-in_err-check : goal.returns-in_err-check
returns-in_err-check c =
    let e = c.in_err-check.field-0.0 in
    let back : c.from_residual.result ≡ Err e = search rules in
    refuses c.args.c _ e back c.in_err-check.ensures
