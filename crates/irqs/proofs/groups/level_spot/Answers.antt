use mathlib.Core.Path.{◌≡◌, refl}
use Rattle.std.proofs.Common.{rules, Err}
use borrow.Author.Tests.{eq-eqb, ne_eqb, lt-ltb, le-ltb}
use Rattle.guest.specs.Machine.{view}
use Rattle.irqs.specs.Registers.{group7_fault, level_spot}
use Rattle.irqs.proofs.GroupLaws.{past}
use Rattle.irqs.proofs.SpotLaws.{shared_stands}
use Rattle.irqs.proofs.groups.level_spot.Goals as goal

pub returns-then-width-ne4-clause-stops : goal.returns-then-width-ne4-clause-stops
unfolding group7_fault
returns-then-width-ne4-clause-stops c = rw (ne_eqb _ 4 c.if-width-ne4.true)

pub returns-then-g-ne1-clause-stops : goal.returns-then-g-ne1-clause-stops
unfolding group7_fault
returns-then-g-ne1-clause-stops c = rw (eq-eqb _ 4 c.if-width-ne4.false, ne_eqb _ 1 c.if-g-ne1.true)

pub returns-then-field_get-ne0-clause-stops : goal.returns-then-field_get-ne0-clause-stops
unfolding group7_fault
returns-then-field_get-ne0-clause-stops c = rw (eq-eqb _ 4 c.if-width-ne4.false, eq-eqb _ 1 c.if-g-ne1.false, ← c.field_get.ensures, ne_eqb _ 0 c.if-field_get-ne0.true)

pub returns-then-vintid-ne0-clause-stops : goal.returns-then-vintid-ne0-clause-stops
unfolding group7_fault
returns-then-vintid-ne0-clause-stops c = rw (eq-eqb _ 4 c.if-width-ne4.false, eq-eqb _ 1 c.if-g-ne1.false, ← c.field_get.ensures, eq-eqb _ 0 c.if-field_get-ne0.false, ← c.field_get-vintid.ensures, ne_eqb _ 0 c.if-vintid-ne0.true)

pub returns-then-vintid-ne0-2-clause-stops : goal.returns-then-vintid-ne0-2-clause-stops
unfolding group7_fault
returns-then-vintid-ne0-2-clause-stops c = rw (eq-eqb _ 4 c.if-width-ne4.false, eq-eqb _ 1 c.if-g-ne1.false, ← c.field_get.ensures, eq-eqb _ 0 c.if-field_get-ne0.false, ← c.field_get-vintid.ensures, eq-eqb _ 0 c.if-vintid-ne0.false, ne_eqb _ 0 c.if-vintid-ne0-2.true)

pub returns-then-vintid-ne0-2-clause-spot : goal.returns-then-vintid-ne0-2-clause-spot
unfolding level_spot
returns-then-vintid-ne0-2-clause-spot c =
    rw (← c.field_get-vintid.ensures, ne_eqb _ 0 c.if-vintid-ne0-2.true)
    (c.shared_spot.ensures, rw c.shared_spot.ensures (shared_stands (view c.args.g) _))

pub returns-in_err-named_vcpu-clause-stops : goal.returns-in_err-named_vcpu-clause-stops
unfolding group7_fault
returns-in_err-named_vcpu-clause-stops c =
    let e = c.in_err-named_vcpu.field-0.0 in
    let back : c.from_residual.result ≡ Err e = search rules in
    let none = c.in_err-named_vcpu.ensures in
    rw (back, none.0)
    (rw (eq-eqb _ 4 c.if-width-ne4.false, eq-eqb _ 1 c.if-g-ne1.false, ← c.field_get.ensures, eq-eqb _ 0 c.if-field_get-ne0.false, ← c.field_get-vintid.ensures, eq-eqb _ 0 c.if-vintid-ne0.false, eq-eqb _ 0 c.if-vintid-ne0-2.false, none.1, le-ltb _ _ (past refl)))

pub returns-clause-stops : goal.returns-clause-stops
unfolding group7_fault
returns-clause-stops c =
    let one = c.in_ok-named_vcpu.ensures in
    rw (eq-eqb _ 4 c.if-width-ne4.false, eq-eqb _ 1 c.if-g-ne1.false, ← c.field_get.ensures, eq-eqb _ 0 c.if-field_get-ne0.false, ← c.field_get-vintid.ensures, eq-eqb _ 0 c.if-vintid-ne0.false, eq-eqb _ 0 c.if-vintid-ne0-2.false, ← one.0, lt-ltb _ _ one.1)

pub returns-clause-spot : goal.returns-clause-spot
unfolding level_spot
returns-clause-spot c =
    let one = c.in_ok-named_vcpu.ensures in
    rw (← c.field_get-vintid.ensures, eq-eqb _ 0 c.if-vintid-ne0-2.false, ← one.0) (refl, one.1)
