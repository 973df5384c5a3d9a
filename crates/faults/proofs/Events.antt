-- One ITT: the first fault of its events, where the devices before are these. Assumes nothing.
use Prim.Native.Nat.{ℕ, ◌+◌, ◌≤◌, ◌<◌}
use native.Mathlib.Omega.{arith}
use mathlib.Core.Path.{◌≡◌, refl, ap}
use mathlib.Core.Bool.{Bool, true, false, not, ◌||◌}
use mathlib.Core.Logic.{◌⊎◌, inl, inr, ⊎_elim}
use mathlib.Core.List.{List, [], ◌∷◌}
use lib.ListN.{length, length-append}
use lib.Dec.{ltb}
use borrow.Author.Tests.{lt-ltb, le-ltb, le-leb, leb-true, not-true, not-false}
use Rattle.lists.proofs.All.{more}
use Rattle.areas.proofs.Has.{has}
use Rattle.areas.proofs.Tests.{lt_or_ge, clash, or_true}
use Rattle.guest.specs.Machine.{Machine}
use Rattle.mapping.specs.declared.Device.{Device}
use Rattle.mapping.specs.declared.Collection.{Collection}
use Rattle.mapping.specs.Mapped.{Mapped, collection_key}
use Rattle.mapping.proofs.Rise.{is_key}
use Rattle.tables.specs.Bytes.{collection_table}
use Rattle.tables.specs.Fault.{at_event, Kind, fault_lpi, fault_next, fault_icid, fault1025th, Fault, at}
use Rattle.tables.specs.Restored.{found, Test, tried, event_tests, put_event, visit_event, read_events}
use Rattle.described.proofs.Tried.{Passed}
use Rattle.described.proofs.Events.{event_pos, event_small}
use Rattle.faults.specs.FaultAt.{
  ReadCollection,
  collection_in,
  event_in,
  itt_bytes,
  event_links,
  Count,
  EventFault,
  lpi_below,
  lpi_above,
  event_next,
  no_collection_lem,
  event_1025th,
  Earlier,
}
use Rattle.faults.proofs.Order.{event_order}
use Rattle.faults.proofs.Judge.{Judged, same, Some, tried_judged}
use Rattle.faults.proofs.Along.{chain_unique}
use Rattle.faults.proofs.Walked.{Told, told_bad, bad_told, Faults, Met, Through, Visits, Ordered, walk_judged}

range_says : (x : ℕ) → (ltb x 8192 || ltb 65535 x) ≡ true → (x < 8192) ⊎ (65535 < x)
range_says x e = ⊎_elim
    (λ (h : x < 8192). inl h)
    (λ (h : 8192 ≤ x). ⊎_elim
    (λ (g : 65535 < x). inr g)
    (λ (g : x ≤ 65535).
    let f : (ltb x 8192 || ltb 65535 x) ≡ false = rw (le-ltb x 8192 h, le-ltb 65535 x g) in
    absurd (clash e f))
    (lt_or_ge 65535 x))
    (lt_or_ge x 8192)

range_low : (x : ℕ) → x < 8192 → (ltb x 8192 || ltb 65535 x) ≡ true
range_low x h = rw (lt-ltb x 8192 h)

range_high : (x : ℕ) → 65535 < x → (ltb x 8192 || ltb 65535 x) ≡ true
range_high x h = rw (lt-ltb 65535 x h, or_true)

module _ (m : Machine) (mem : List ℕ) where
  -- the rows are the collections that are read
  pub record Icids (cs : List Collection) : Type 0 where
    pub says : (c : ℕ) → has (is_key collection_key c) cs ≡ true → (i : ℕ) × ReadCollection (collection_table m mem) i × ((collection_in m mem i).icid ≡ c)
    pub is : (i : ℕ) → ReadCollection (collection_table m mem) i → has (is_key collection_key (collection_in m mem i).icid) cs ≡ true

  count_unique : (ids : List ℕ) (n r : ℕ) → Count m mem ids n → Count m mem ids r → n ≡ r
  count_unique [] n r a b = omega arith
  count_unique (x ∷ xs) n r a b =
      let e = chain_unique (event_links m mem x) (event_pos (itt_bytes m mem x)) a.3 b.3 a.4 b.4 in
      let f = count_unique xs a.0 b.0 a.1 b.1 in
      omega (arith, ap (λ (l : List ℕ). length l) e, a.5, b.5)

  module _ (ids : List ℕ) (d : ℕ) where
    abbrev pub EventThere : Faults
    EventThere es e g = (c : Kind) × (g ≡ at (at_event d e) c) × EventFault m mem ids d es e c

    event_ordered : Ordered EventThere
    event_ordered js is j i g f x y b =
        let b' : Earlier (at (at_event d j) x.0) f = rw x.1 at b in
        let b'' : Earlier (at (at_event d j) x.0) (at (at_event d i) y.0) = rw y.1 at b' in
        event_order d j i x.0 y.0 b''

    module _ (ds : List Device) where
      -- what was read before
      pub record EventInv (es : List ℕ) (k : Mapped) : Type 0 where
        pub before : ℕ
        pub count : Count m mem ids before
        pub icids : Icids k.collections
        pub devices : k.devices ≡ ds
        pub events : length k.events ≡ before + length es

      module _ (es : List ℕ) (e : ℕ) (k : Mapped) (b : Bool) (inv : EventInv es k) (told : Told (event_links m mem d) e b) where
        abbrev tests : List Test
        tests = event_tests b (event_in m mem d e) k

        abbrev Hit : Fault → Type 0
        Hit = Some (at_event d e) (λ g. ⊥) tests

        to : (g : Fault) → Hit g → EventThere es e g
        to g s = ⊎_elim
            (λ x. (fault_lpi, x.0, ⊎_elim (λ h. lpi_below h) (λ h. lpi_above h) (range_says (event_in m mem d e).lpi x.1)))
            (λ s. ⊎_elim
            (λ x. (fault_next, x.0, event_next (told_bad b told x.1)))
            (λ s. ⊎_elim
            (λ x. (fault_icid, x.0, no_collection_lem (λ i r q. clash (rw q at (inv.icids.is i r)) (not-true _ x.1))))
            (λ s. ⊎_elim
            (λ x. (fault1025th, x.0, event_1025th inv.before inv.count (omega (arith, leb-true 1024 (length k.events) x.1, inv.events))))
            (λ x. absurd x)
            s) s) s) s

        from : {c : Kind} (g : Fault) → g ≡ at (at_event d e) c → EventFault m mem ids d es e c → Hit g
        from g q (lpi_below h) = inl (q, range_low (event_in m mem d e).lpi h)
        from g q (lpi_above h) = inl (q, range_high (event_in m mem d e).lpi h)
        from g q (event_next h) = inr (inl (q, bad_told b told h))
        from g q (no_collection_lem h) = inr (inr (inl (q, by (has (is_key collection_key (event_in m mem d e).icid) k.collections) refl)))
          where
            by : (x : Bool) → has (is_key collection_key (event_in m mem d e).icid) k.collections ≡ x → not x ≡ true
            by true p = let r = inv.icids.says (event_in m mem d e).icid p in absurd (h r.0 r.1 r.2)
            by false p = refl
        from g q (event_1025th n c h) =
            let u = count_unique ids n inv.before c inv.count in
            inr (inr (inr (inl (q, le-leb 1024 (length k.events) (omega (arith, inv.events))))))

        put : EventInv (e ∷ es) (put_event (event_in m mem d e) k)
        put = record {
          before = inv.before;
          count = inv.count;
          icids = inv.icids;
          devices = inv.devices;
          events = omega (arith, inv.events, length-append k.events (event_in m mem d e ∷ []));
        }

        good : Passed tests → b ≡ true
        good (more p (more q r)) = not-false b q

        visited : Judged (EventThere es e) (λ h. (b ≡ true) × EventInv (e ∷ es) h) (visit_event (itt_bytes m mem d) d b e k)
        unfolding visit_event
        visited =
            let o = found (put_event (event_in m mem d e) k) in
            let Q : Mapped → Type 0 = λ h. (b ≡ true) × EventInv (e ∷ es) h in
            same Hit (EventThere es e) Q Q to (λ g x. from g x.1 x.2) (λ h q. q)
            (tried (at_event d e) tests o)
            (tried_judged (at_event d e) (λ g. ⊥) Q (λ g c x b. x) 0 tests (omega arith, (omega arith, (omega arith, (omega arith, tt)))) o
            (λ a. (λ g x. x, (good a, put))))

      event_visits : Visits (event_links m mem d) (visit_event (itt_bytes m mem d) d) EventThere EventInv
      event_visits es e k b inv told = visited es e k b inv told

      pub events_judged : (k : Mapped) → EventInv [] k
          → Judged (Met (event_links m mem d) EventThere) (Through (event_links m mem d) EventInv) (read_events (itt_bytes m mem d) d k)
      unfolding read_events
      events_judged k inv =
          let t = itt_bytes m mem d in
          walk_judged (event_links m mem d) (event_pos t) (event_small t) (visit_event t d) EventThere EventInv event_ordered event_visits k inv
