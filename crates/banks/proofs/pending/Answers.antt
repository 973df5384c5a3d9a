use mathlib.Core.Path.{sym, ◌∙◌}
use borrow.Author.Tests.{eq-eqb, ne_eqb}
use Rattle.banks.specs.Bank.{pending}
use Rattle.banks.proofs.pending.Goals as goal

pub returns-then-field_get-eq1 : goal.returns-then-field_get-eq1
unfolding pending
returns-then-field_get-eq1 c =
    let edge = eq-eqb _ 1 (sym c.field_get.ensures ∙ c.if-field_get-eq1.true) in
    rw edge c.field_get-latch.ensures

pub returns-then-latch-eq1 : goal.returns-then-latch-eq1
unfolding pending
returns-then-latch-eq1 c =
    let edge = ne_eqb _ 1 (λ e. c.if-field_get-eq1.false (c.field_get.ensures ∙ e)) in
    let latched = eq-eqb _ 1 (sym c.field_get-latch.ensures ∙ c.if-latch-eq1.true) in
    rw (edge, latched)

pub returns : goal.returns
unfolding pending
returns c =
    let edge = ne_eqb _ 1 (λ e. c.if-field_get-eq1.false (c.field_get.ensures ∙ e)) in
    let latched = ne_eqb _ 1 (λ e. c.if-latch-eq1.false (c.field_get-latch.ensures ∙ e)) in
    rw (edge, latched) c.field_get-2.ensures
