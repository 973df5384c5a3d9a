use mathlib.Core.Path.{◌≡◌, refl, sym}
use Rattle.std.proofs.Common.{rules, Err}
use Rattle.answers.specs.Number.{number}
use Rattle.guest.specs.Machine.{view}
use Rattle.guest.proofs.Returned.{number_not_0, reads_refuse}
use Rattle.irqs.proofs.GroupLaws.{get7_refused, get7_told}
use Rattle.irqs.proofs.groups.get_group7.Goals as goal

pub returns-in_err-level_spot : goal.returns-in_err-level_spot
returns-in_err-level_spot c =
    let e = c.in_err-level_spot.field-0.0 in
    let back : c.from_residual.result ≡ Err e = search rules in
    reads_refuse back (get7_refused c.args.attribute c.args.width (view c.args.g) (number e) c.in_err-level_spot.ensures.stops (number_not_0 e))

pub bank_of-b-requires : goal.bank_of-b-requires
bank_of-b-requires c = (c.requires, c.in_ok-level_spot.ensures.spot.1)

pub returns : goal.returns
returns c =
    let p = c.in_ok-level_spot in
    let b = c.bank_of-b in
    sym (get7_told c.args.attribute c.args.width (view c.args.g) 0 p.ensures.stops p.field-0 b.result refl p.ensures.spot.0 b.ensures)
