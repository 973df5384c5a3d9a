-- `answers::refuse` meets its contract. Assumes nothing.
use native.Mathlib.Omega.{arith}
use Rattle.answers.proofs.Negated.{neg_fits, neg_back}
use Rattle.answers.proofs.refuse.Goals as goal

pub overflow_sub-result : goal.overflow_sub-result
overflow_sub-result c = neg_fits c.args.errno (omega arith)

pub returns : goal.returns
returns c = neg_back c.args.errno (omega arith)
