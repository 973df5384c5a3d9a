use mathlib.Core.Path.{◌≡◌, refl, ap, ◌∙◌}
use Rattle.std.proofs.Common.{rules, Err}
use Rattle.answers.specs.Number.{number}
use Rattle.guest.specs.Machine.{view}
use Rattle.guest.proofs.Returned.{number_not_0, does_refuse, does_accept}
use Rattle.irqs.specs.Registers.{redistributor_register}
use Rattle.irqs.proofs.GroupLaws.{past, fault5_register, fault5_vcpu, set5_refused, set5_done}
use Rattle.irqs.proofs.groups.set_group5.Goals as goal

pub returns-in_err-register_fault : goal.returns-in_err-register_fault
returns-in_err-register_fault c =
    let f = c.in_err-register_fault in
    let e = f.field-0.0 in
    let r = c.redistributor_register-register in
    let back : c.from_residual.result ≡ Err e = search rules in
    let p = (r.ensures ∙ ap redistributor_register c.offset_of.ensures) in
    does_refuse (view c.args.g) back
    (set5_refused c.args.attribute c.args.width (view c.args.g) (number e) (fault5_register c.args.attribute c.args.width (view c.args.g) r.result (number e) p f.ensures (number_not_0 e)) (number_not_0 e) c.args.value)

pub returns-in_err-k : goal.returns-in_err-k
returns-in_err-k c =
    let r = c.redistributor_register-register in
    let p = r.ensures ∙ ap redistributor_register c.offset_of.ensures in
    let e = c.in_err-k.field-0.0 in
    let none = c.in_err-k.ensures in
    let back : c.from_residual-in_err-k.result ≡ Err e = search rules in
    let m = view c.args.g in
    does_refuse m back
    (set5_refused c.args.attribute c.args.width m (number e) (rw none.0 (fault5_vcpu c.args.attribute c.args.width (view c.args.g) r.result 0 p c.in_ok-register_fault.ensures refl _ refl (past none.1))) (number_not_0 e) c.args.value)

pub returns : goal.returns
returns c =
    let r = c.redistributor_register-register in
    let p = (r.ensures ∙ ap redistributor_register c.offset_of.ensures) in
    let k = c.in_ok-k in
    let w = c.redistributor_write in
    does_accept (view c.args.g) w.result w.ensures.is w.ensures.held
    (set5_done c.args.attribute c.args.width (view c.args.g) r.result 0 p c.in_ok-register_fault.ensures refl k.k k.ensures.0 c.args.value k.ensures.1)
