-- `keeps::region_struck` meets its contract. Assumes nothing.
use Prim.Native.Nat.{◌-◌}
use lib.ListN.{get_or}
use native.Mathlib.Omega.{arith}
use mathlib.Core.Path.{◌∙◌}
use borrow.Author.Rules.{rules}
use borrow.Author.Tests.{tests}
use Rattle.std.proofs.lemmas.Iterator.{YieldsList-from_range}
use Rattle.std.proofs.lemmas.Iterator.Search.{any_from_yields_List}
use Rattle.layout.specs.Layout.{decode}
use Rattle.guest.specs.Machine.{no_region}
use Rattle.areas.specs.Area.{overlaps}
use Rattle.rules.specs.Standing.{region_area}
use Rattle.keeps.proofs.Rows.{region_strikes}
use Rattle.keeps.proofs.region_struck.Goals as goal

pub returns : goal.returns
returns c =
    let l = (decode c.args.s.now).regions in
    any_from_yields_List (λ i. overlaps c.args.a (region_area (get_or l i no_region))) _ _ _ c.any.ensures.ran
    (YieldsList-from_range c.args.from c.region_count.result (c.region_count.result - c.args.from) (cc) (omega arith))
    (λ x b q k. search (rules, tests))
    ∙ region_strikes l c.args.a _ _ (omega (arith, c.region_count.ensures, c.requires.from_in_bounds))
