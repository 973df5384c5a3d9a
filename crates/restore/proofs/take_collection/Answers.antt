-- `restore::take_collection` meets its contract. Assumes nothing.
use native.Mathlib.Omega.{arith}
use Rattle.restore.proofs.Over.{counted}
use Rattle.restore.proofs.Collections.{place_fits, collection_high, collection_again, collection_full, collection_new}
use Rattle.restore.proofs.take_collection.Goals as goal

pub returns-then-vcpu_count-e : goal.returns-then-vcpu_count-e
returns-then-vcpu_count-e c =
    collection_high _ _ _ _ _ c.entry_at.ensures c.collection_entry-e.ensures _ c.vcpu_count.ensures c.if-vcpu_count-e.true

pub returns-then-find_collection-n : goal.returns-then-find_collection-n
returns-then-find_collection-n c =
    collection_again _ _ _ _ _ c.entry_at.ensures c.collection_entry-e.ensures _ c.vcpu_count.ensures c.if-vcpu_count-e.false
    _ _ c.find_collection.ensures c.collection_count-n.ensures c.if-find_collection-n.true

pub returns-then-n-ge-MAX_COLLECTIONS : goal.returns-then-n-ge-MAX_COLLECTIONS
returns-then-n-ge-MAX_COLLECTIONS c =
    collection_full _ _ _ _ _ c.entry_at.ensures c.collection_entry-e.ensures _ c.vcpu_count.ensures c.if-vcpu_count-e.false
    _ _ c.find_collection.ensures c.collection_count-n.ensures c.if-find_collection-n.false c.if-n-ge-MAX_COLLECTIONS.true

pub insert_collection-requires : goal.insert_collection-requires
insert_collection-requires c =
    (counted c.requires.0.over, place_fits _ _ _ c.place_collection-place.ensures, omega (arith, c.collection_count-n.ensures, c.if-n-ge-MAX_COLLECTIONS.false))

pub returns : goal.returns
returns c =
    collection_new _ _ _ _ _ c.entry_at.ensures c.collection_entry-e.ensures _ c.vcpu_count.ensures c.if-vcpu_count-e.false
    _ _ c.find_collection.ensures c.collection_count-n.ensures c.if-find_collection-n.false c.if-n-ge-MAX_COLLECTIONS.false _ c.place_collection-place.ensures _ c.insert_collection.ensures
