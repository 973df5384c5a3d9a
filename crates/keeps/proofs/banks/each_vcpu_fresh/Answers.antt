-- `keeps::banks::each_vcpu_fresh` meets its contract. Assumes nothing.
use lib.ListN.{get_or}
use native.Mathlib.Omega.{arith}
use mathlib.Core.Path.{◌∙◌}
use borrow.Author.Rules.{rules}
use borrow.Author.Tests.{tests}
use Rattle.std.proofs.lemmas.Iterator.{YieldsList-from_range}
use Rattle.std.proofs.lemmas.Iterator.Search.{all_from_yields_List}
use Rattle.layout.specs.Layout.{decode}
use Rattle.guest.specs.Machine.{no_vcpu}
use Rattle.rules.specs.Rules.{fresh_vcpu}
use Rattle.keeps.proofs.Rows.{rows_all}
use Rattle.keeps.proofs.banks.each_vcpu_fresh.Goals as goal

pub returns : goal.returns
returns c =
    let l = (decode c.args.s.now).vcpus in
    all_from_yields_List (λ i. fresh_vcpu (get_or l i (no_vcpu 0))) _ _ _ c.all.ensures.ran
    (YieldsList-from_range 0 c.vcpu_count.result c.vcpu_count.result (cc) (omega arith))
    (λ x b q k. search (rules, tests))
    ∙ rows_all fresh_vcpu (no_vcpu 0) l _ c.vcpu_count.ensures
