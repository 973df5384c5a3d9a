use borrow.Author.Tests.{eq-eqb, ne_eqb}
use Rattle.irqs.specs.Registers.{redistributor_register}
use Rattle.irqs.proofs.registers.redistributor_register.Goals as goal

pub returns-then-offset-eq16 : goal.returns-then-offset-eq16
unfolding redistributor_register
returns-then-offset-eq16 c = rw (eq-eqb _ _ c.if-offset-eq16.true)

pub returns-then-offset-eq66048 : goal.returns-then-offset-eq66048
unfolding redistributor_register
returns-then-offset-eq66048 c = rw (ne_eqb _ _ c.if-offset-eq16.false, eq-eqb _ _ c.if-offset-eq66048.true)

pub returns-then-offset-eq66176 : goal.returns-then-offset-eq66176
unfolding redistributor_register
returns-then-offset-eq66176 c = rw (ne_eqb _ _ c.if-offset-eq16.false, ne_eqb _ _ c.if-offset-eq66048.false, eq-eqb _ _ c.if-offset-eq66176.true)

pub returns : goal.returns
unfolding redistributor_register
returns c = rw (ne_eqb _ _ c.if-offset-eq16.false, ne_eqb _ _ c.if-offset-eq66048.false, ne_eqb _ _ c.if-offset-eq66176.false)
