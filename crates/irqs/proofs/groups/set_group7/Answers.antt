use mathlib.Core.Path.{◌≡◌, refl, ap, ◌∙◌}
use Prim.Native.Nat.{ℕ}
use Rattle.std.proofs.Common.{rules, Err}
use Rattle.answers.specs.Number.{number}
use Rattle.guest.specs.Machine.{view}
use Rattle.guest.proofs.Returned.{number_not_0, does_refuse, does_accept}
use Rattle.banks.specs.Bank.{with_level}
use Rattle.irqs.proofs.GroupLaws.{set7_refused, set7_done}
use Rattle.irqs.proofs.groups.set_group7.Goals as goal

pub returns-in_err-spot : goal.returns-in_err-spot
returns-in_err-spot c =
    let e = c.in_err-spot.field-0.0 in
    let back : c.from_residual.result ≡ Err e = search rules in
    does_refuse (view c.args.g) back (set7_refused c.args.attribute c.args.width (view c.args.g) (number e) c.in_err-spot.ensures.stops c.args.value (number_not_0 e))

pub bank_of-b-requires : goal.bank_of-b-requires
bank_of-b-requires c = (c.requires, c.in_ok-spot.ensures.spot.1)

pub with_bank-requires : goal.with_bank-requires
with_bank-requires c = (c.requires, c.in_ok-spot.ensures.spot.1)

pub returns : goal.returns
returns c =
    let p = c.in_ok-spot in
    let b = c.bank_of-b in
    let w = c.with_bank in
    does_accept (view c.args.g) w.result w.ensures.is w.ensures.held
    (set7_done c.args.attribute c.args.width (view c.args.g) 0 p.ensures.stops p.spot b.result refl p.ensures.spot.0 b.ensures c.args.value
    c.with_level.result (c.with_level.ensures ∙ ap (λ (w : ℕ). with_level w b.result) c.level_word.ensures))
