-- `restore::places::itt_area` meets its contract. Assumes nothing.
use native.Mathlib.Omega.{arith}
use lib.Dec.{lit<}
use lib.Pow.{shl_exact}
use Rattle.restore.proofs.places.itt_area.Goals as goal

pub returns : goal.returns
returns c = rw (shl_exact {a = 8} 4 c.args.d.bits 64 (lit< tt) (omega (arith, c.requires)))
