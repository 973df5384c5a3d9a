-- `restore::read_collections` meets its contract. Assumes nothing.
use native.Mathlib.Omega.{arith}
use Rattle.std.proofs.lemmas.Result.{err_from_is_err_and}
use Rattle.restore.proofs.Collections.{collections_start, collections_begun, collections_end, collections_blank, collections_fault, collections_turn}
use Rattle.restore.proofs.read_collections.Goals as goal

pub loop-i-init : goal.loop-i-init
loop-i-init c = collections_start _ _

pub returns-then-not-collection_valid : goal.returns-then-not-collection_valid
returns-then-not-collection_valid c =
    collections_blank _ _ _ _ _ c.loop-i.invariant c.loop-i-test.true _ _ c.entry_at.ensures c.collection_valid.ensures (c.if-not-collection_valid.true)

pub visit_collection-requires : goal.visit_collection-requires
visit_collection-requires c = (
  collections_begun _ _ _ _ _ c.loop-i.invariant c.requires.0,
  c.loop-i-test.true,
  omega (arith, c.loop-i-test.true, c.requires.1),
)

pub returns-in_err-visit_collection : goal.returns-in_err-visit_collection
returns-in_err-visit_collection c =
    let p = err_from_is_err_and c.from_residual.result c.from_residual.ensures.1 in
    rw (p.1, p.2)
    (collections_fault _ _ _ _ _ c.loop-i.invariant c.loop-i-test.true _ _ c.entry_at.ensures c.collection_valid.ensures (c.if-not-collection_valid.false)
    _ _ c.in_err-visit_collection.ensures)

pub loop-i-preserved : goal.loop-i-preserved
loop-i-preserved c =
    collections_turn _ _ _ _ _ c.loop-i.invariant c.loop-i-test.true _ _ c.entry_at.ensures c.collection_valid.ensures (c.if-not-collection_valid.false)
    _ c.in_ok-visit_collection.ensures c.visit_collection.auto.s

pub returns : goal.returns
returns c = collections_end _ _ _ _ _ c.loop-i.invariant c.loop-i-test.false
