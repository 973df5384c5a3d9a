use mathlib.Core.Path.{◌≡◌, refl}
use Rattle.std.proofs.Common.{rules, Err}
use Rattle.calls.proofs.Laws.{gives_no, gives_done}
use Rattle.calls.proofs.give.Goals as goal

pub returns-in_err-r : goal.returns-in_err-r
returns-in_err-r c =
    let e = c.in_err-r.field-0.0 in
    let back : c.from_residual.result ≡ Err e = search rules in
    rw c.in_err-r.was (gives_no e _ back)

pub returns : goal.returns
returns c = rw c.in_ok-r.was (gives_done _ _ refl c.fill.ensures)
