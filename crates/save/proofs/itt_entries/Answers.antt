-- `save::itt_entries` meets its contract. Assumes nothing.
use native.Mathlib.Nat.{one-mul}
use native.Mathlib.Omega.{arith}
use mathlib.Core.Path.{◌∙◌}
use lib.Dec.{lit<}
use lib.Pow.{shl_exact}
use Rattle.save.proofs.itt_entries.Goals as goal

pub returns : goal.returns
returns c = shl_exact {a = 1} 1 c.args.bits 64 (lit< tt) (omega (arith, c.requires)) ∙ one-mul _
