use Prim.Native.Nat.{ℕ, ◌%◌}
use mathlib.Core.Path.{◌≡◌, refl, ap, ◌∙◌}
use Rattle.std.proofs.Common.{rules, Err}
use Rattle.answers.specs.Number.{number}
use Rattle.guest.specs.Machine.{view}
use Rattle.guest.proofs.Returned.{number_not_0, does_refuse, does_accept}
use Rattle.banks.specs.Bank.{raised}
use Rattle.irqs.specs.Irqs.{irq_set}
use Rattle.irqs.proofs.IrqLaws.{change_refused, change_done}
use Rattle.irqs.proofs.calls.irq_set.Goals as goal

pub returns-in_err-irq_fault : goal.returns-in_err-irq_fault
unfolding irq_set
returns-in_err-irq_fault c =
    let f = c.in_err-irq_fault in
    let e = f.field-0.0 in
    let r : c.from_residual.result ≡ Err e = search rules in
    does_refuse (view c.args.g) r (change_refused c.args.vcpu c.args.intid (view c.args.g) (number e) f.ensures (raised (c.args.intid % 32)) (number_not_0 e))

pub returns : goal.returns
unfolding irq_set
returns c =
    let b = c.bank_of-b in
    let w = c.with_bank in
    does_accept (view c.args.g) w.result w.ensures.is w.ensures.held
    (change_done c.args.vcpu c.args.intid (view c.args.g) 0 c.in_ok-irq_fault.ensures (raised (c.args.intid % 32))
    c.good_spot-spot.result b.result c.raised.result refl c.good_spot-spot.ensures.is b.ensures
    (c.raised.ensures ∙ ap (λ (i : ℕ). raised i b.result) c.bit_of.ensures))
