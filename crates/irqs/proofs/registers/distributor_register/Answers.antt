use native.Mathlib.Omega.{arith}
use borrow.Author.Tests.{eq-eqb, ne_eqb, le-leb, lt-leb, le-ltb, lt-ltb}
use Rattle.irqs.specs.Registers.{distributor_register}
use Rattle.irqs.proofs.registers.distributor_register.Goals as goal

pub returns-then-offset-eq16 : goal.returns-then-offset-eq16
unfolding distributor_register
returns-then-offset-eq16 c = record { is = rw (eq-eqb _ _ c.if-offset-eq16.true); sharing = tt }

pub returns-then-offset-lt512 : goal.returns-then-offset-lt512
unfolding distributor_register
returns-then-offset-lt512 c = record { is = rw (ne_eqb _ _ c.if-offset-eq16.false, lt-leb _ _ c.if-offset-lt512.true); sharing = tt }

pub returns-then-offset-ge768 : goal.returns-then-offset-ge768
unfolding distributor_register
returns-then-offset-ge768 c = record { is = rw (ne_eqb _ _ c.if-offset-eq16.false, le-leb _ _ c.if-offset-lt512.false, le-ltb _ _ c.if-offset-ge768.true); sharing = tt }

pub returns-then-offset-ne0 : goal.returns-then-offset-ne0
unfolding distributor_register
returns-then-offset-ne0 c = record { is = rw (ne_eqb _ _ c.if-offset-eq16.false, le-leb _ _ c.if-offset-lt512.false, lt-ltb _ _ c.if-offset-ge768.false, ne_eqb _ _ c.if-offset-ne0.true); sharing = tt }

pub returns-then-offset-le512 : goal.returns-then-offset-le512
unfolding distributor_register
returns-then-offset-le512 c = record { is = rw (ne_eqb _ _ c.if-offset-eq16.false, le-leb _ _ c.if-offset-lt512.false, lt-ltb _ _ c.if-offset-ge768.false, eq-eqb _ _ c.if-offset-ne0.false, le-ltb _ _ c.if-offset-le512.true); sharing = tt }

pub returns-then-offset-ge640 : goal.returns-then-offset-ge640
unfolding distributor_register
returns-then-offset-ge640 c = record { is = rw (ne_eqb _ _ c.if-offset-eq16.false, le-leb _ _ c.if-offset-lt512.false, lt-ltb _ _ c.if-offset-ge768.false, eq-eqb _ _ c.if-offset-ne0.false, lt-ltb _ _ c.if-offset-le512.false, le-ltb _ _ c.if-offset-ge640.true); sharing = tt }

pub returns : goal.returns
unfolding distributor_register
returns c = record { is = rw (ne_eqb _ _ c.if-offset-eq16.false, le-leb _ _ c.if-offset-lt512.false, lt-ltb _ _ c.if-offset-ge768.false, eq-eqb _ _ c.if-offset-ne0.false, lt-ltb _ _ c.if-offset-le512.false, lt-ltb _ _ c.if-offset-ge640.false); sharing = omega arith }
