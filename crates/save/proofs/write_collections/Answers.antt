-- `save::write_collections` meets its contract. Assumes nothing.
use native.Mathlib.Omega.{arith}
use Rattle.mapping.specs.Mapped.{no_collection}
use Rattle.save.proofs.Rows.{row_good}
use Rattle.save.proofs.Collections.{list_start, list_turn, list_end}
use Rattle.save.proofs.write_collections.Goals as goal

pub loop-i-init : goal.loop-i-init
loop-i-init c = list_start _ _ _ _ c.collection_count-count.ensures

pub collection_word-requires : goal.collection_word-requires
collection_word-requires c =
    row_good no_collection _ _ _ (omega (arith, c.loop-i.invariant)) c.collection_at-c.ensures c.requires.1.good

pub loop-i-preserved : goal.loop-i-preserved
loop-i-preserved c =
    list_turn _ _ _ _ _ c.requires.1.room c.requires.1.few _ _ _ _ _ c.loop-i-test.true c.loop-i.invariant c.collection_at-c.ensures
    c.collection_word.ensures c.put_entry.auto.mem c.put_entry.ensures

pub returns : goal.returns
returns c =
    list_end _ _ _ _ _ c.requires.1.room c.requires.1.few _ _ _ c.loop-i-test.false c.loop-i.invariant c.write_blanks.ensures
