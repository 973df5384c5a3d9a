-- `keeps::regions_apart` meets its contract. Assumes nothing.
use Prim.Native.Nat.{◌+◌}
use mathlib.Core.Bool.{not}
use mathlib.Core.List.{map}
use lib.ListN.{get_or, drop}
use native.Mathlib.Omega.{arith}
use mathlib.Core.Path.{◌∙◌}
use borrow.Author.Rules.{rules}
use borrow.Author.Tests.{tests}
use Rattle.std.proofs.lemmas.Iterator.{YieldsList-from_range}
use Rattle.std.proofs.lemmas.Iterator.Search.{all_from_yields_List}
use Rattle.layout.specs.Layout.{decode}
use Rattle.guest.specs.Machine.{no_region}
use Rattle.areas.specs.Area.{strikes}
use Rattle.rules.specs.Standing.{region_area}
use Rattle.keeps.proofs.Rows.{regions_clear}
use Rattle.keeps.proofs.regions_apart.Goals as goal

pub returns : goal.returns
returns c =
    let l = (decode c.args.s.now).regions in
    all_from_yields_List (λ i. not (strikes (drop (i + 1) (map region_area l)) (region_area (get_or l i no_region)))) _ _ _ c.all.ensures.ran
    (YieldsList-from_range 0 c.region_count.result c.region_count.result (cc) (omega arith))
    (λ x b q k. search (rules, tests))
    ∙ regions_clear l _ c.region_count.ensures
