-- `areas::with_area` meets its contract: a row set behind the last is one more row. Assumes nothing.
use native.Mathlib.Omega.{arith}
use native.Mathlib.Numerals.{add-one}
use mathlib.Core.Path.{◌≡◌, refl}
use lib.ListN.{length}
use lib.Seq.{take-suc-set}
use borrow.Author.Rules.{rules}
use Rattle.areas.proofs.with_area.Goals as goal

pub returns : goal.returns
returns c =
    let l : length c.args.t.rows ≡ 36 = search rules in
    (rw add-one (take-suc-set c.args.t.rows c.args.t.count c.args.a (omega arith)), refl)
