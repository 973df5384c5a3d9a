-- `mapcheck::collections_ok` meets its contract. Assumes nothing.
use mathlib.Core.Path.{refl, ◌∙◌}
use lib.ListN.{get_or}
use Rattle.std.proofs.Common.{rules}
use Rattle.std.proofs.lemmas.Iterator.{YieldsList-from_range}
use Rattle.std.proofs.lemmas.Iterator.Search.{all_from_yields_List}
use Rattle.mapping.specs.Mapped.{no_collection}
use Rattle.maplayout.specs.MapLayout.{decode_map}
use Rattle.mapcheck.proofs.Loops.{all_rows}
use Rattle.mapcheck.proofs.Verdicts.{is_collection, collections_same}
use Rattle.mapcheck.proofs.collections_ok.Goals as goal

pub returns : goal.returns
returns c =
    collections_same _ _ _ c.vcpu_count.ensures (
    all_from_yields_List (λ i. is_collection c.vcpu_count.result (get_or (decode_map c.args.s.now).collections i no_collection)) _ _ _ c.all.ensures.ran
    (YieldsList-from_range 0 c.collection_count.result _ refl refl) (λ x b q k. search rules) ∙ all_rows (is_collection _) no_collection _ c.collection_count.ensures)
