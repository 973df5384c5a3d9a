use borrow.Author.Tests.{eq-eqb, ne_eqb}
use Rattle.irqs.specs.Registers.{access_fault}
use Rattle.irqs.proofs.registers.access_fault.Goals as goal

pub returns-then-width-ne4 : goal.returns-then-width-ne4
unfolding access_fault
returns-then-width-ne4 c = rw (ne_eqb _ 4 c.if-width-ne4.true)

pub returns-then-g-ne1 : goal.returns-then-g-ne1
unfolding access_fault
returns-then-g-ne1 c = rw (eq-eqb _ 4 c.if-width-ne4.false, ne_eqb _ 1 c.if-g-ne1.true)

pub returns-then-g-eq1 : goal.returns-then-g-eq1
unfolding access_fault
returns-then-g-eq1 c = rw (eq-eqb _ 4 c.if-width-ne4.false, eq-eqb _ 1 c.if-g-ne1.false, eq-eqb _ 1 c.if-g-eq1.true)

pub returns : goal.returns
unfolding access_fault
returns c = rw (eq-eqb _ 4 c.if-width-ne4.false, eq-eqb _ 1 c.if-g-ne1.false, ne_eqb _ 1 c.if-g-eq1.false)
