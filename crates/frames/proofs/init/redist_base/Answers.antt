-- `frames::init::redist_base` meets its contract. Assumes nothing.
use native.Mathlib.Omega.{arith}
use borrow.Author.Rules.{rules}
use Rattle.frames.proofs.Known.{run_end}
use Rattle.frames.proofs.init.redist_base.Goals as goal

pub overflow_add-result : goal.overflow_add-result
overflow_add-result c =
    omega (arith, run_end c.args.g c.requires c.args.k c.if-g-ne1.false c.if-g-eq1.true (search rules) c.if-n-k.false)
