use mathlib.Core.Path.{◌≡◌, refl, sym, ap, ◌∙◌}
use Rattle.std.proofs.Common.{rules, Err}
use Rattle.answers.specs.Number.{number}
use Rattle.guest.specs.Machine.{view}
use Rattle.guest.proofs.Returned.{number_not_0, reads_refuse}
use Rattle.irqs.specs.Registers.{distributor_register}
use Rattle.irqs.proofs.GroupLaws.{get1_refused, get1_told}
use Rattle.irqs.proofs.groups.get_group1.Goals as goal

pub returns-in_err-register_fault : goal.returns-in_err-register_fault
returns-in_err-register_fault c =
    let f = c.in_err-register_fault in
    let e = f.field-0.0 in
    let r = c.distributor_register-register in
    let back : c.from_residual.result ≡ Err e = search rules in
    reads_refuse back (get1_refused c.args.attribute c.args.width (view c.args.g) r.result (number e) (r.ensures.is ∙ ap distributor_register c.offset_of.ensures) f.ensures (number_not_0 e))

pub returns : goal.returns
returns c =
    let r = c.distributor_register-register in
    rw c.distributor_read.ensures (sym (get1_told c.args.attribute c.args.width (view c.args.g) r.result 0 (r.ensures.is ∙ ap distributor_register c.offset_of.ensures) c.in_ok-register_fault.ensures refl))
