use mathlib.Core.Path.{sym, ◌∙◌}
use borrow.Author.Tests.{eq-eqb, ne_eqb}
use Rattle.banks.proofs.rises.Goals as goal

pub returns-then-field_get-ne1 : goal.returns-then-field_get-ne1
returns-then-field_get-ne1 c =
    let edge = ne_eqb _ 1 (λ e. c.if-field_get-ne1.true (c.field_get.ensures ∙ e)) in
    rw edge

pub returns-then-field_get-ne0 : goal.returns-then-field_get-ne0
returns-then-field_get-ne0 c =
    let edge = eq-eqb _ 1 (sym c.field_get.ensures ∙ c.if-field_get-ne1.false) in
    let low = ne_eqb _ 0 (λ e. c.if-field_get-ne0.true (c.field_get-2.ensures ∙ e)) in
    rw (edge, low)

pub returns : goal.returns
returns c =
    let latches = eq-eqb _ 1 (sym c.field_get.ensures ∙ c.if-field_get-ne1.false) in
    let low = eq-eqb _ 0 (sym c.field_get-2.ensures ∙ c.if-field_get-ne0.false) in
    rw (latches, low)
