-- `rules::limit` meets its contract: a shift by at most 52 loses nothing. Assumes nothing.
use native.Mathlib.Nat.{one-mul}
use native.Mathlib.Omega.{arith}
use mathlib.Core.Path.{◌∙◌}
use lib.Pow.{shl_exact}
use Rattle.rules.proofs.limit.Goals as goal

pub returns : goal.returns
returns c = shl_exact {a = 1} 1 c.args.width 64 (omega arith) (omega (arith, c.requires)) ∙ one-mul _
