use Prim.Native.Nat.{ℕ}
use mathlib.Core.Path.{◌≡◌, refl, ap, ◌∙◌}
use Rattle.std.proofs.Common.{rules, Err}
use Rattle.answers.specs.Number.{number}
use Rattle.guest.specs.Machine.{view}
use Rattle.guest.proofs.Returned.{number_not_0, does_refuse, does_accept}
use Rattle.banks.specs.Bank.{with_trigger}
use Rattle.irqs.specs.declared.Spot.{Spot}
use Rattle.irqs.specs.Spots.{spot_of, trigger_word}
use Rattle.irqs.specs.Irqs.{irq_trigger}
use Rattle.irqs.proofs.IrqLaws.{change_refused, change_done}
use Rattle.irqs.proofs.calls.irq_trigger.Goals as goal

pub returns-in_err-irq_fault : goal.returns-in_err-irq_fault
unfolding irq_trigger
returns-in_err-irq_fault c =
    let f = c.in_err-irq_fault in
    let e = f.field-0.0 in
    let m = view c.args.g in
    let r : c.from_residual.result ≡ Err e = search rules in
    does_refuse m r
    (change_refused c.args.vcpu c.args.intid m (number e) f.ensures (with_trigger (trigger_word (spot_of c.args.vcpu c.args.intid m) c.args.word)) (number_not_0 e))

pub returns : goal.returns
unfolding irq_trigger
returns c =
    let p = c.good_spot-spot in
    let b = c.bank_of-b in
    let w = c.with_bank in
    let m = view c.args.g in
    let t = c.trigger_word.ensures ∙ ap (λ (x : Spot). trigger_word x c.args.word) p.ensures.is in
    does_accept m w.result w.ensures.is w.ensures.held
    (change_done c.args.vcpu c.args.intid m 0 c.in_ok-irq_fault.ensures (with_trigger (trigger_word (spot_of c.args.vcpu c.args.intid m) c.args.word))
    p.result b.result c.with_trigger.result refl p.ensures.is b.ensures (c.with_trigger.ensures ∙ ap (λ (w : ℕ). with_trigger w b.result) t))
