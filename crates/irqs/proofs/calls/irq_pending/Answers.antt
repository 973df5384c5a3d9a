use mathlib.Core.Path.{◌≡◌, refl, sym}
use Rattle.std.proofs.Common.{rules, Err}
use Rattle.answers.specs.Number.{number}
use Rattle.guest.specs.Machine.{view}
use Rattle.guest.proofs.Returned.{number_not_0, reads_refuse}
use Rattle.irqs.proofs.IrqLaws.{pending_refused, pending_told}
use Rattle.irqs.proofs.calls.irq_pending.Goals as goal

pub returns-in_err-irq_fault : goal.returns-in_err-irq_fault
returns-in_err-irq_fault c =
    let f = c.in_err-irq_fault in
    let e = f.field-0.0 in
    let r : c.from_residual.result ≡ Err e = search rules in
    reads_refuse r (pending_refused c.args.vcpu c.args.intid (view c.args.g) (number e) f.ensures (number_not_0 e))

pub returns : goal.returns
returns c =
    let p = c.good_spot in
    let b = c.bank_of-b in
    let i = c.bit_of in
    rw c.pending.ensures
    (sym (pending_told c.args.vcpu c.args.intid (view c.args.g) 0 c.in_ok-irq_fault.ensures p.result b.result i.result refl p.ensures.is b.ensures i.ensures))
