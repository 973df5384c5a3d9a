-- The collection table: the first fault of the entries that are read. Assumes nothing.
use Prim.Native.Nat.{ℕ, zero, suc, ◌+◌, ◌/◌, ◌≤◌, ◌<◌}
use native.Mathlib.Omega.{arith}
use mathlib.Core.Path.{◌≡◌, refl, ap, ◌∙◌}
use mathlib.Core.Bool.{Bool, true, false}
use mathlib.Core.Logic.{◌⊎◌, inl, inr, ⊎_elim}
use mathlib.Core.List.{List, []}
use lib.ListN.{length}
use borrow.Author.Tests.{le-leb, leb-true, eq-eqb}
use Rattle.lists.specs.Rows.{choose}
use Rattle.lists.proofs.Member.{all_in}
use Rattle.areas.proofs.Has.{has}
use Rattle.areas.proofs.Tests.{lt_or_ge, clash}
use Rattle.entries.specs.Collection.{is_collection}
use Rattle.guest.specs.Machine.{Machine}
use Rattle.mapping.specs.Mapped.{Mapped, empty, collection_key, no_collection}
use Rattle.mapping.proofs.Edits.{has_in}
use Rattle.mapping.proofs.Rise.{is_key, found_key}
use Rattle.tables.specs.Bytes.{entry_at, collection_table}
use Rattle.tables.specs.Fault.{at_collection, Kind, fault_pe, fault_repeat, fault17th, Fault, at}
use Rattle.tables.specs.Restored.{found, and_then, Test, tried, collection_tests, put_collection, visit_collection, read_collections}
use Rattle.described.proofs.Tried.{Passed}
use Rattle.described.proofs.Collects.{Listed, passes, listed_none, listed_more}
use Rattle.faults.specs.FaultAt.{ReadCollection, collection_in, CollectionFault, no_vcpu_lem, repeated, collection_17th, Earlier}
use Rattle.faults.proofs.Order.{collection_order}
use Rattle.faults.proofs.Judge.{Judged, seq, same, Some, tried_judged}
use Rattle.faults.proofs.Events.{Icids}

module _ (m : Machine) (mem : List ℕ) where
  abbrev table : List ℕ
  table = collection_table m mem

  -- the rows are those of the first n entries, and there are no others
  record Rows (n : ℕ) (k : Mapped) : Type 0 where
    pub listed : Listed m table n k.collections
    pub devices : k.devices ≡ []
    pub events : k.events ≡ []

  has_says : (n : ℕ) (k : Mapped) → Rows n k → (c : ℕ) → has (is_key collection_key c) k.collections ≡ true
      → (i : ℕ) × (i < n) × ((collection_in m mem i).icid ≡ c)
  has_says n k r c e =
      let f = found_key collection_key c k.collections no_collection e in
      let p = all_in k.collections r.listed.named f.0 in
      (p.0, p.1, ap collection_key p.2 ∙ f.1)

  has_is : (n : ℕ) (k : Mapped) → Rows n k → (i c : ℕ) → i < n → (collection_in m mem i).icid ≡ c → has (is_key collection_key c) k.collections ≡ true
  has_is n k r i c h e = has_in (is_key collection_key c) k.collections (r.listed.listed i h) (eq-eqb (collection_in m mem i).icid c e)

  abbrev CollectionThere : ℕ → Fault → Type 0
  CollectionThere i g = (c : Kind) × (g ≡ at (at_collection i) c) × CollectionFault m mem i c

  abbrev pub CollectionsFrom : ℕ → Fault → Type 0
  CollectionsFrom i g = (j : ℕ) × ReadCollection table j × CollectionThere j g × (i ≤ j)

  module _ (i : ℕ) (k : Mapped) (r : Rows i k) (v : is_collection (entry_at table i) ≡ true) where
    abbrev tests : List Test
    tests = collection_tests m (collection_in m mem i) k

    abbrev Hit : Fault → Type 0
    Hit = Some (at_collection i) (λ g. ⊥) tests

    to : (g : Fault) → Hit g → CollectionThere i g
    to g s = ⊎_elim
        (λ x. (fault_pe, x.0, no_vcpu_lem (leb-true (length m.vcpus) (collection_in m mem i).pe x.1)))
        (λ s. ⊎_elim
        (λ x. let q = has_says i k r (collection_in m mem i).icid x.1 in (fault_repeat, x.0, repeated q.0 q.1 q.2))
        (λ s. ⊎_elim
        (λ x. (fault17th, x.0, collection_17th (omega (arith, leb-true 16 (length k.collections) x.1, r.listed.count))))
        (λ x. absurd x)
        s) s) s

    from : {c : Kind} (g : Fault) → g ≡ at (at_collection i) c → CollectionFault m mem i c → Hit g
    from g q (no_vcpu_lem h) = inl (q, le-leb (length m.vcpus) (collection_in m mem i).pe h)
    from g q (repeated j l e) = inr (inl (q, has_is i k r j (collection_in m mem i).icid l e))
    from g q (collection_17th h) = inr (inr (inl (q, le-leb 16 (length k.collections) (omega (arith, r.listed.count)))))

    put : Passed tests → Rows (suc i) (put_collection (collection_in m mem i) k)
    put a = record {
      listed = listed_more m table i k.collections r.listed v (passes m table i k a);
      devices = r.devices;
      events = r.events;
    }

    visited : Judged (CollectionThere i) (Rows (suc i)) (visit_collection m table i k)
    unfolding visit_collection
    visited =
        let o = found (put_collection (collection_in m mem i) k) in
        same Hit (CollectionThere i) (Rows (suc i)) (Rows (suc i)) to (λ g x. from g x.1 x.2) (λ h q. q)
        (tried (at_collection i) tests o)
        (tried_judged (at_collection i) (λ g. ⊥) (Rows (suc i)) (λ g c x b. x) 0 tests (omega arith, (omega arith, (omega arith, tt))) o
        (λ a. (λ g x. x, put a)))

  -- all entries that are read
  abbrev Read : Mapped → Type 0
  Read h = (n : ℕ) × (n ≤ length table / 8) × Rows n h × ((j : ℕ) → ReadCollection table j → j < n)

  read_judged : (left i : ℕ) (k : Mapped) → i + left ≡ length table / 8 → Rows i k → Judged (CollectionsFrom i) Read (read_collections m table left i k)
  unfolding read_collections
  read_judged zero i k e r = (λ g x. let l = x.1.inside in omega (arith, x.3), (i, omega arith, r, λ j x. let l = x.inside in omega arith))
  read_judged (suc left) i k e r = by (is_collection (entry_at table i)) refl (λ h q. read_judged left (suc i) h (omega arith) q)
    where
      here_or : (g : Fault) → CollectionsFrom i g → CollectionThere i g ⊎ CollectionsFrom (suc i) g
      here_or g f = ⊎_elim
          (λ (l : i < f.0). inr (f.0, f.1, f.2, l))
          (λ (l : f.0 ≤ i). let q : f.0 ≡ i = omega (arith, f.3) in inl (rw q at f.2))
          (lt_or_ge i f.0)

      order : (f g : Fault) → CollectionThere i f → CollectionsFrom (suc i) g → Earlier g f → ⊥
      order f g x y b =
          let b' : Earlier (at (at_collection y.0) y.2.0) f = rw y.2.1 at b in
          let b'' : Earlier (at (at_collection y.0) y.2.0) (at (at_collection i) x.0) = rw x.1 at b' in
          omega (arith, collection_order y.0 i y.2.0 x.0 b'', y.3)

      by : (b : Bool) → is_collection (entry_at table i) ≡ b
          → ((h : Mapped) → Rows (suc i) h → Judged (CollectionsFrom (suc i)) Read (read_collections m table left (suc i) h))
          → Judged (CollectionsFrom i) Read (choose b (and_then (visit_collection m table i k) (read_collections m table left (suc i))) (found k))
      by true v ih =
          let x : ReadCollection table i = record {
            inside = omega arith;
            valid = λ j h. ⊎_elim (λ (l : j < i). r.listed.valid j l) (λ (l : i ≤ j). let q : j ≡ i = omega arith in rw q v) (lt_or_ge j i);
          } in
          seq (CollectionsFrom i) (CollectionThere i) (CollectionsFrom (suc i)) (Rows (suc i)) Read
          (λ g t. (i, x, t, omega arith))
          (λ g f. (f.0, f.1, f.2, omega (arith, f.3)))
          here_or order
          (visit_collection m table i k) (read_collections m table left (suc i)) (visited i k r v) ih
      by false v ih = (
        λ g f. clash (f.1.valid i f.3) v,
        (i, omega arith, r, λ j x. ⊎_elim (λ (l : j < i). l) (λ (l : i ≤ j). absurd (clash (x.valid i l) v)) (lt_or_ge j i)),
      )

  -- what is there when the devices are read
  pub record Collected (h : Mapped) : Type 0 where
    pub icids : Icids m mem h.collections
    pub devices : h.devices ≡ []
    pub events : h.events ≡ []

  collected : (h : Mapped) → Read h → Collected h
  collected h r =
      let n = r.0 in
      let l = r.1 in
      record {
        icids = record {
          says = λ c e.
              let q = has_says n h r.2 c e in
              let u = q.1 in
              (q.0, record { inside = omega arith; valid = λ j g. r.2.listed.valid j (omega arith) }, q.2);
          is = λ i x. has_is n h r.2 i (collection_in m mem i).icid (r.3 i x) refl;
        };
        devices = r.2.devices;
        events = r.2.events;
      }

  pub collections_judged : Judged (CollectionsFrom 0) Collected (read_collections m table (length table / 8) 0 empty)
  collections_judged =
      same (CollectionsFrom 0) (CollectionsFrom 0) Read Collected (λ g x. x) (λ g x. x) collected
      (read_collections m table (length table / 8) 0 empty)
      (read_judged (length table / 8) 0 empty (omega arith) (record { listed = listed_none m table; devices = refl; events = refl }))
