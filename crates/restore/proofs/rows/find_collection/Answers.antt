-- `restore::rows::find_collection` meets its contract. Assumes nothing.
use native.Mathlib.Omega.{arith}
use mathlib.Core.Path.{◌∙◌}
use lib.Dec.{eqb}
use lib.ListN.{get_or}
use borrow.Author.Rules.{rules}
use borrow.Author.Tests.{tests}
use Rattle.std.proofs.lemmas.Iterator.{YieldsList-from_range, YieldsList-from_map}
use Rattle.std.proofs.lemmas.Iterator.Search.{position_from_yields_List}
use Rattle.mapping.specs.Mapped.{collection_key, no_collection}
use Rattle.maplayout.specs.MapLayout.{decode_map}
use Rattle.restore.proofs.Searches.{row_found}
use Rattle.restore.proofs.rows.find_collection.Goals as goal

pub returns : goal.returns
returns c =
    let rows = (decode_map c.args.s.now).collections in
    let n = c.collection_count-n.result in
    c.unwrap_or.ensures
    ∙ row_found no_collection rows n c.collection_count-n.ensures (λ x. eqb (collection_key x) c.args.icid) c.position.result
    (position_from_yields_List (λ x. eqb (collection_key x) c.args.icid) _ _ c.position.result c.position.ensures.ran
    (YieldsList-from_map _ (λ i. get_or rows i no_collection) (YieldsList-from_range 0 n n c.map.ensures.source (omega arith)) c.map.ensures.closure (λ x r q k. search rules))
    (λ x b q k. search (rules, tests)))
