use Prim.Native.Nat.{ℕ}
use mathlib.Core.Path.{◌≡◌, refl, ap, ◌∙◌}
use Rattle.std.proofs.Common.{rules, Err}
use Rattle.answers.specs.Number.{number}
use Rattle.guest.specs.Machine.{view}
use Rattle.guest.proofs.Returned.{number_not_0, does_refuse, does_accept}
use Rattle.banks.specs.Bank.{lined}
use Rattle.irqs.proofs.IrqLaws.{line_refused, line_above, line_sgi, line_done}
use Rattle.irqs.proofs.calls.irq_line.Goals as goal

pub returns-in_err-irq_fault : goal.returns-in_err-irq_fault
returns-in_err-irq_fault c =
    let f = c.in_err-irq_fault in
    let e = f.field-0.0 in
    let r : c.from_residual.result ≡ Err e = search rules in
    does_refuse (view c.args.g) r (line_refused c.args.vcpu c.args.intid (view c.args.g) (number e) f.ensures c.args.level (number_not_0 e))

pub returns-then-level-gt1 : goal.returns-then-level-gt1
returns-then-level-gt1 c =
    does_refuse (view c.args.g) refl
    (line_above c.args.vcpu c.args.intid (view c.args.g) 0 c.in_ok-irq_fault.ensures c.args.level refl c.if-level-gt1.true)

pub returns-then-intid-lt16 : goal.returns-then-intid-lt16
returns-then-intid-lt16 c =
    does_accept (view c.args.g) c.args.g refl c.requires
    (line_sgi c.args.vcpu c.args.intid (view c.args.g) 0 c.in_ok-irq_fault.ensures c.args.level refl c.if-level-gt1.false c.if-intid-lt16.true)

pub returns : goal.returns
returns c =
    let p = c.good_spot-spot in
    let b = c.bank_of-b in
    let w = c.with_bank in
    does_accept (view c.args.g) w.result w.ensures.is w.ensures.held
    (line_done c.args.vcpu c.args.intid (view c.args.g) 0 c.in_ok-irq_fault.ensures c.args.level
    p.result b.result c.lined.result refl c.if-level-gt1.false c.if-intid-lt16.false p.ensures.is b.ensures
    (c.lined.ensures ∙ ap (λ (i : ℕ). lined i c.args.level b.result) c.bit_of.ensures))
