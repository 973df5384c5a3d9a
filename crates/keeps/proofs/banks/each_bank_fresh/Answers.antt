-- `keeps::banks::each_bank_fresh` meets its contract. Assumes nothing.
use lib.ListN.{get_or}
use native.Mathlib.Omega.{arith}
use mathlib.Core.Path.{◌∙◌}
use borrow.Author.Rules.{rules}
use borrow.Author.Tests.{tests}
use Rattle.std.proofs.lemmas.Iterator.{YieldsList-from_range}
use Rattle.std.proofs.lemmas.Iterator.Search.{all_from_yields_List}
use Rattle.layout.specs.Layout.{decode}
use Rattle.guest.specs.Machine.{no_bank}
use Rattle.rules.specs.Rules.{fresh_bank}
use Rattle.keeps.proofs.Rows.{rows_all}
use Rattle.keeps.proofs.banks.each_bank_fresh.Goals as goal

pub returns : goal.returns
returns c =
    let l = (decode c.args.s.now).shared in
    all_from_yields_List (λ i. fresh_bank (get_or l i no_bank)) _ _ _ c.all.ensures.ran
    (YieldsList-from_range 0 c.bank_count.result c.bank_count.result (cc) (omega arith))
    (λ x b q k. search (rules, tests))
    ∙ rows_all fresh_bank no_bank l _ c.bank_count.ensures
