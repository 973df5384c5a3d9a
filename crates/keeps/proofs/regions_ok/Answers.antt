-- `keeps::regions_ok` meets its contract. Assumes nothing.
use lib.ListN.{get_or}
use native.Mathlib.Omega.{arith}
use mathlib.Core.Path.{◌∙◌}
use borrow.Author.Rules.{rules}
use borrow.Author.Tests.{tests}
use Rattle.std.proofs.lemmas.Iterator.{YieldsList-from_range}
use Rattle.std.proofs.lemmas.Iterator.Search.{all_from_yields_List}
use Rattle.layout.specs.Layout.{decode}
use Rattle.guest.specs.Machine.{no_region}
use Rattle.rules.specs.Rules.{region_ok}
use Rattle.keeps.proofs.Rows.{rows_all}
use Rattle.keeps.proofs.regions_ok.Goals as goal

pub returns : goal.returns
returns c =
    let l = (decode c.args.s.now).regions in
    all_from_yields_List (λ i. region_ok c.args.end (get_or l i no_region)) _ _ _ c.all.ensures.ran
    (YieldsList-from_range 0 c.region_count.result c.region_count.result (cc) (omega arith))
    (λ x b q k. search (rules, tests))
    ∙ rows_all (region_ok c.args.end) no_region l _ c.region_count.ensures
