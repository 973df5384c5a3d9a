-- The collections of a table, one entry at a time. Assumes nothing.
use Prim.Native.Nat.{ℕ, suc, ◌+◌, ◌-◌, ◌/◌, ◌^◌, ◌≤◌, ◌<◌}
use native.Mathlib.Omega.{arith}
use mathlib.Core.Path.{◌≡◌, refl, sym, ap, ◌∙◌}
use mathlib.Core.Bool.{Bool, true, false}
use mathlib.Core.List.{List}
use lib.ListN.{length}
use lib.Seq.{take-length}
use lib.Dec.{leb}
use Rattle.std.specs.Prelude.{Ok, Err}
use borrow.Author.Tests.{le-leb, lt-leb}
use Rattle.lists.specs.Rows.{choose}
use Rattle.lists.proofs.Find.{row_le}
use Rattle.entries.specs.declared.CollectionEntry.{CollectionEntry}
use Rattle.entries.specs.Collection.{is_collection, collection_of}
use Rattle.entries.proofs.Laws.{collection_of_fits}
use Rattle.guest.specs.Machine.{Machine}
use Rattle.mapping.specs.declared.Collection.{Collection}
use Rattle.mapping.specs.Mapped.{Mapped, collection_key, place_of, inserted_at, no_collection}
use Rattle.mapping.specs.Commands.{index_of_collection, has_collection, with_collections}
use Rattle.layout.specs.Layout.{decode}
use Rattle.layout.proofs.InPlace.{vcpus_few}
use Rattle.maplayout.specs.MapLayout.{decode_map}
use Rattle.maplayout.specs.Added.{collection_added}
use Rattle.tables.specs.Bytes.{entry_at}
use Rattle.codes.specs.declared.Kind.TheVariants.{Pe, Repeat, Collection17th}
use Rattle.codes.specs.declared.Fault as faults
use Rattle.tables.specs.Fault.{at_collection, fault_pe, fault_repeat, fault17th, at as faultAt}
use Rattle.tables.specs.Restored.{Out, fault, found, and_then, visit_collection, read_collections}
use Rattle.restore.specs.Begun.{Over, Begun, ByFault, ByKind, Steps}
use Rattle.restore.proofs.Over.{same_guest, same_rows, guest_counted, over_collection}
use Rattle.restore.proofs.Answers.{gives_kind, gives_found, gives_as, stopped, went}
use Rattle.restore.proofs.Searches.{collections_size, stands, lacks}

-- a place among all rows is not past their end
pub place_fits : (icid : ℕ) (l : List Collection) (at : ℕ) → at ≡ place_of collection_key icid l → at ≤ length l
place_fits icid l at e =
    let h = row_le (λ x. leb icid (collection_key x)) no_collection (length l) l in
    rw e (rw (take-length l) at h)

-- the visit of an entry, by the tests of the code on what was read of it
module _ (m : Machine) (t : List ℕ) (i : ℕ) (k : Mapped) (c : CollectionEntry) (p : c ≡ collection_of (entry_at t i)) where
  high : length m.vcpus ≤ c.pe → fault (faultAt (at_collection i) fault_pe) ≡ visit_collection m t i k
  unfolding visit_collection
  high h = rw (← p, le-leb (length m.vcpus) c.pe h)

  module _ (h : c.pe < length m.vcpus) where
    again : has_collection c.icid k ≡ true → fault (faultAt (at_collection i) fault_repeat) ≡ visit_collection m t i k
    unfolding visit_collection
    again s = rw (← p, lt-leb (length m.vcpus) c.pe h, s)

    module _ (s : has_collection c.icid k ≡ false) where
      full : 16 ≤ length k.collections → fault (faultAt (at_collection i) fault17th) ≡ visit_collection m t i k
      unfolding visit_collection
      full n = rw (← p, lt-leb (length m.vcpus) c.pe h, s, le-leb 16 (length k.collections) n)

      new : length k.collections < 16 → (j : ℕ) → j ≡ place_of collection_key c.icid k.collections
          → found (with_collections (inserted_at j (record { icid = c.icid; pe = c.pe }) k.collections) k) ≡ visit_collection m t i k
      unfolding visit_collection
      new n j e = rw (← p, lt-leb (length m.vcpus) c.pe h, s, lt-leb 16 (length k.collections) n, ← e)

-- the same, on the bytes that hold the mapping so far
module _ (t : List ℕ) (i : ℕ) (s : List ℕ) (w : ℕ) (c : CollectionEntry) (p : w ≡ entry_at t i) (q : c ≡ collection_of w)
    (v : ℕ) (n : v ≡ length (decode s).vcpus) where
  row_read : c ≡ collection_of (entry_at t i)
  row_read = q ∙ ap collection_of p

  vcpus : {z : List ℕ} {k : Mapped} → Over z k s → v ≡ length (decode z).vcpus
  vcpus o = n ∙ ap (λ (m : Machine). length m.vcpus) (same_guest o)

  pub collection_high : v ≤ c.pe → Steps (ByKind (at_collection i)) (λ m. visit_collection m t i) s (Err Pe) s
  collection_high h z k o = let e = vcpus o in gives_kind (at_collection i) Pe (high (decode z) t i k c row_read (omega arith))

  module _ (h : c.pe < v) (at count : ℕ) (e : at ≡ index_of_collection c.icid (decode_map s)) (f : count ≡ length (decode_map s).collections) where
    pub collection_again : at < count → Steps (ByKind (at_collection i)) (λ m. visit_collection m t i) s (Err Repeat) s
    collection_again g z k o =
        let x = vcpus o in
        gives_kind (at_collection i) Repeat (again (decode z) t i k c row_read (omega arith) (stands o c.icid at count e f g))

    module _ (g : count ≤ at) where
      pub collection_full : 16 ≤ count → Steps (ByKind (at_collection i)) (λ m. visit_collection m t i) s (Err Collection17th) s
      collection_full j z k o =
          let x = vcpus o in
          let y = collections_size o c.icid at count e f in
          gives_kind (at_collection i) Collection17th (full (decode z) t i k c row_read (omega arith) (lacks o c.icid at count e f g) (omega arith))

      pub collection_new : count < 16 → (j : ℕ) → j ≡ place_of collection_key c.icid (decode_map s).collections
          → (u : List ℕ) → u ≡ collection_added j (record { icid = c.icid; pe = c.pe }) s → Steps (ByKind (at_collection i)) (λ m. visit_collection m t i) s (Ok tt) u
      collection_new b j d u a z k o =
          let x = vcpus o in
          let y = collections_size o c.icid at count e f in
          let few = vcpus_few s (guest_counted o) in
          let fits = collection_of_fits (entry_at t i) in
          let place : j ≡ place_of collection_key c.icid k.collections = d ∙ ap (λ (r : Mapped). place_of collection_key c.icid r.collections) (same_rows o) in
          let icid : c.icid < 2 ^ 16 = rw row_read fits.icid in
          gives_found _
          (over_collection o j (record { icid = c.icid; pe = c.pe }) (record { icid = icid; pe = omega arith }) (place_fits c.icid k.collections j place) (omega arith) u a)
          (new (decode z) t i k c row_read (omega arith) (lacks o c.icid at count e f g) (omega arith) j place)

-- the loop: what is left of the table has the answer
module _ (t : List ℕ) (s₀ : List ℕ) where
  pub record Left (z : List ℕ) (answer : Out) (left i : ℕ) (s : List ℕ) : Type 0 where
    pub rows : Mapped
    pub over : Over z rows s
    pub rest : read_collections (decode z) t left i rows ≡ answer

  pub record Reading (n i : ℕ) (s : List ℕ) : Type 0 where
    pub size : n ≡ length t / 8
    pub end : i ≤ n
    pub same : length s ≡ length s₀
    pub left : (z : List ℕ) (k : Mapped) → Over z k s₀ → Left z (read_collections (decode z) t (length t / 8) 0 k) (n - i) i s

  abbrev whole : Machine → Mapped → Out
  whole m = read_collections m t (length t / 8) 0

  pub collections_start : Reading (length t / 8) 0 s₀
  collections_start =
      let e : length t / 8 - 0 ≡ length t / 8 = omega arith in
      record {
        size = refl;
        end = omega arith;
        same = refl;
        left = λ z k o. record { rows = k; over = o; rest = ap (λ (n : ℕ). read_collections (decode z) t n 0 k) e };
      }

  module _ (n i : ℕ) (s : List ℕ) (v : Reading n i s) where
    pub collections_begun : Begun s₀ → Begun s
    collections_begun b = let l = v.left b.from b.rows b.over in record { from = b.from; rows = l.rows; over = l.over }

    pub collections_end : n ≤ i → Steps ByFault whole s₀ (Ok tt) s
    unfolding read_collections
    collections_end h z k o =
        let l = v.left z k o in
        let e : n - i ≡ 0 = omega arith in
        gives_found l.rows l.over (rw e at l.rest)

    module _ (h : i < n) (w : ℕ) (b : Bool) (p : w ≡ entry_at t i) (q : b ≡ is_collection w) where
      turn : (m : Machine) (k : Mapped) (answer : Out) → read_collections m t (n - i) i k ≡ answer
          → choose b (and_then (visit_collection m t i k) (read_collections m t (n - (i + 1)) (i + 1))) (found k) ≡ answer
      unfolding read_collections
      turn m k answer r =
          let e : n - i ≡ suc (n - (i + 1)) = omega arith in
          let f : i + 1 ≡ suc i = omega arith in
          let g : is_collection (entry_at t i) ≡ b = sym (q ∙ ap is_collection p) in
          rw f (rw (e, f, g) at r)

      pub collections_blank : b ≡ false → Steps ByFault whole s₀ (Ok tt) s
      collections_blank e z k o =
          let l = v.left z k o in
          gives_found l.rows l.over (rw e at (turn (decode z) l.rows _ l.rest))

      module _ (e : b ≡ true) (u : List ℕ) where
        next : (m : Machine) (k : Mapped) (answer : Out) → read_collections m t (n - i) i k ≡ answer
            → and_then (visit_collection m t i k) (read_collections m t (n - (i + 1)) (i + 1)) ≡ answer
        next m k answer x = rw e at (turn m k answer x)

        pub collections_fault : (f : faults.Fault) → Steps ByFault (λ m. visit_collection m t i) s (Err f) u → Steps ByFault whole s₀ (Err f) u
        collections_fault f d z k o =
            let l = v.left z k o in
            gives_as (stopped (d z l.rows l.over) f refl _) (next (decode z) l.rows _ l.rest)

        pub collections_turn : Steps ByFault (λ m. visit_collection m t i) s (Ok tt) u → length u ≡ length s → Reading n (i + 1) u
        collections_turn d l = record {
          size = v.size;
          end = omega arith;
          same = l ∙ v.same;
          left =
              λ z k o.
              let l = v.left z k o in
              let a = d z l.rows l.over in
              record { rows = (a.reads refl).0; over = (a.reads refl).2; rest = sym (went a refl _) ∙ next (decode z) l.rows _ l.rest };
        }
