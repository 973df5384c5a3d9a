-- `listing::DeviceLine::put` meets its contract. Assumes nothing.
use native.Mathlib.Omega.{arith}
use mathlib.Core.List.{append_assoc}
use Rattle.lines.proofs.Laws.{adds_both, adds_as}
use Rattle.listing.specs.Listing.{device_line}
use Rattle.listing.proofs.DeviceLine.put.Goals as goal

pub returns : goal.returns
unfolding device_line
returns c =
    adds_as (adds_both (adds_both c.put_decimal.ensures c.put_hexadecimal.ensures) c.put_decimal-2.ensures) (simp append_assoc) (omega arith)
