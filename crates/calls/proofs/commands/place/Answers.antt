use mathlib.Core.Path.{◌≡◌}
use Rattle.std.proofs.Common.{rules, Err}
use Rattle.calls.proofs.Boxes.{place_early, place_refused, place_done}
use Rattle.calls.proofs.commands.place.Goals as goal

pub returns-then-g-ne1 : goal.returns-then-g-ne1
returns-then-g-ne1 c = place_early _ _ _ _ _ _ c.if-g-ne1.true

pub returns-in_err-place_fault : goal.returns-in_err-place_fault
returns-in_err-place_fault c =
    let e = c.in_err-place_fault.field-0.0 in
    let back : c.from_residual.result ≡ Err e = search rules in
    place_refused _ _ _ _ _ _ e back c.if-g-ne1.false c.in_err-place_fault.ensures

pub returns : goal.returns
returns c = place_done _ _ c.requires _ _ _ _ c.if-g-ne1.false c.in_ok-place_fault.ensures
