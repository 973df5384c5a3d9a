use mathlib.Core.Path.{◌≡◌, refl, sym, ap, ◌∙◌}
use Rattle.std.proofs.Common.{rules, Err}
use Rattle.answers.specs.Number.{number}
use Rattle.guest.specs.Machine.{view}
use Rattle.guest.proofs.Returned.{number_not_0, reads_refuse}
use Rattle.irqs.specs.Registers.{redistributor_register}
use Rattle.irqs.proofs.GroupLaws.{past, fault5_register, fault5_vcpu, get5_refused, get5_told}
use Rattle.irqs.proofs.groups.get_group5.Goals as goal

pub returns-in_err-register_fault : goal.returns-in_err-register_fault
returns-in_err-register_fault c =
    let f = c.in_err-register_fault in
    let e = f.field-0.0 in
    let r = c.redistributor_register-register in
    let back : c.from_residual.result ≡ Err e = search rules in
    let p = (r.ensures ∙ ap redistributor_register c.offset_of.ensures) in
    reads_refuse back
    (get5_refused c.args.attribute c.args.width (view c.args.g) (number e) (fault5_register c.args.attribute c.args.width (view c.args.g) r.result (number e) p f.ensures (number_not_0 e)) (number_not_0 e))

pub returns-in_err-k : goal.returns-in_err-k
returns-in_err-k c =
    let r = c.redistributor_register-register in
    let p = r.ensures ∙ ap redistributor_register c.offset_of.ensures in
    let e = c.in_err-k.field-0.0 in
    let none = c.in_err-k.ensures in
    let back : c.from_residual-in_err-k.result ≡ Err e = search rules in
    reads_refuse back
    (get5_refused c.args.attribute c.args.width (view c.args.g) (number e) (rw none.0 (fault5_vcpu c.args.attribute c.args.width (view c.args.g) r.result 0 p c.in_ok-register_fault.ensures refl _ refl (past none.1))) (number_not_0 e))

pub returns : goal.returns
returns c =
    let r = c.redistributor_register-register in
    let p = (r.ensures ∙ ap redistributor_register c.offset_of.ensures) in
    let k = c.in_ok-k in
    rw c.redistributor_read.ensures (sym (get5_told c.args.attribute c.args.width (view c.args.g) r.result 0 p c.in_ok-register_fault.ensures refl k.k k.ensures.0 k.ensures.1))
