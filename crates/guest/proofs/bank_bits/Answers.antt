-- `guest::bank_bits` meets its contract. Assumes nothing.
use borrow.Author.Tests.{eq-eqb, ne_eqb}
use Rattle.guest.specs.Machine.{bank_bits}
use Rattle.guest.proofs.bank_bits.Goals as goal

pub returns-then-j-eq30 : goal.returns-then-j-eq30
unfolding bank_bits
returns-then-j-eq30 c = rw (eq-eqb _ 30 c.if-j-eq30.true)

pub returns : goal.returns
unfolding bank_bits
returns c = rw (ne_eqb _ 30 c.if-j-eq30.false)
