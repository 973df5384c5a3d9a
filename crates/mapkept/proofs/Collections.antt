-- Mapping a collection and removing it keep the rules.
use Prim.Native.Nat.{ℕ, ◌<◌}
use native.Mathlib.Omega.{arith}
use mathlib.Core.Path.{◌≡◌, sym, ap, ◌∙◌}
use mathlib.Core.Bool.{true, false, ◌&&◌}
use lib.ListN.{length, set, length-set}
use lib.Dec.{ltb, leb, eqb}
use borrow.Author.Tests.{ltb-true, leb-false, eqb-false}
use Rattle.guest.specs.Machine.{Machine}
use Rattle.kept.proofs.Choice.{choose_by}
use Rattle.mapping.specs.declared.Collection.{Collection}
use Rattle.mapping.specs.Mapped.{Mapped, collection_key, place_of, inserted_at, removed_at, no_collection}
use Rattle.mapping.specs.Commands.{index_of_collection, has_collection, with_collections, map_collection, names, is_named, unmap_collection}
use Rattle.mapping.specs.MapRules.{collection_ok}
use Rattle.mapkept.proofs.Edits.{all_weaker, all_inserted, all_removed, all_set, length_inserted, length_removed, has_set, has_none}
use Rattle.mapkept.proofs.Rising.{rising_inserted, rising_removed, rising_set, keyed, found_key, same_with, same_without}
use Rattle.mapkept.proofs.Sound.{CollectionParts, collection_parts, Sound, with_collections_lem, Stays, Keeps, keeps}

module _ (m : Machine) (k : Mapped) (s : Sound m k) where
  module _ (c : Collection) (p : CollectionParts m c) where
    new_collection : has_collection c.icid k ≡ false → length k.collections < 16 → Sound m (with_collections (inserted_at (place_of collection_key c.icid k.collections) c k.collections) k)
    new_collection n f =
        let cs = k.collections in
        let i = place_of collection_key c.icid cs in
        with_collections_lem s (inserted_at i c cs) (rw length_inserted f) (rising_inserted collection_key c cs n s.rising_collections)
        (all_inserted i c cs p s.collections)
        (all_weaker (λ e q. (same_with collection_key i c e.icid cs n q.collection).has) k.events s.events)

    moved_collection : has_collection c.icid k ≡ true → Sound m (with_collections (set k.collections (index_of_collection c.icid k) c) k)
    moved_collection h =
        let cs = k.collections in
        let i = index_of_collection c.icid k in
        let z = sym (found_key collection_key c.icid cs no_collection h) in
        with_collections_lem s (set cs i c) (rw length-set s.few_collections) (rising_set collection_key cs i c no_collection z ∙ s.rising_collections)
        (all_set cs i c p s.collections)
        (all_weaker (λ e q. has_set (keyed collection_key e.icid) cs i c no_collection (ap (λ (n : ℕ). eqb n e.icid) z)) k.events s.events)

  less_collection : (icid : ℕ) → has_collection icid k ≡ true → is_named icid k ≡ false → Sound m (with_collections (removed_at (index_of_collection icid k) k.collections) k)
  less_collection icid h n =
      let cs = k.collections in
      let i = index_of_collection icid k in
      let l = ltb-true i (length cs) h in
      with_collections_lem s (removed_at i cs) (omega (arith, length_removed i cs l, s.few_collections)) (rising_removed collection_key i cs s.rising_collections)
      (all_removed i cs s.collections)
      (all_weaker (λ e o. (same_without collection_key icid e.icid cs no_collection h (eqb-false e.icid icid o)).has) k.events (has_none (names icid) k.events n))

pub map_collection-keeps : (icid pe : ℕ) (m : Machine) → Keeps m (map_collection icid pe m)
unfolding map_collection collection_ok
map_collection-keeps icid pe m =
    let c : Collection = record { icid = icid; pe = pe } in
    keeps m (map_collection icid pe m) (λ k s.
    choose_by (Stays m) (ltb icid 65536 && ltb pe (length m.vcpus))
    (λ o.
    let p = collection_parts m c o in
    choose_by (Stays m) (has_collection icid k)
    (λ h. moved_collection m k s c p h)
    (λ n. choose_by (Stays m) (leb 16 (length k.collections))
    (λ _. s)
    (λ f. new_collection m k s c p n (leb-false 16 (length k.collections) f))))
    (λ _. s))

pub unmap_collection-keeps : (icid : ℕ) (m : Machine) → Keeps m (unmap_collection icid)
unfolding unmap_collection
unmap_collection-keeps icid m =
    keeps m (unmap_collection icid) (λ k s.
    choose_by (Stays m) (has_collection icid k)
    (λ h. choose_by (Stays m) (is_named icid k) (λ _. s) (λ n. less_collection m k s icid h n))
    (λ _. s))
