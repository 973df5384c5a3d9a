-- The events that are read from one ITT: those that it describes.
use Prim.Native.Nat.{ℕ, ◌+◌, ◌≤◌, ◌<◌}
use native.Mathlib.Omega.{arith}
use mathlib.Core.Path.{◌≡◌, refl, sym, ap, ◌∙◌}
use mathlib.Core.Bool.{true, false, not, ◌||◌}
use mathlib.Core.List.{List, [], ◌∷◌, ◌++◌, map, append-nil, append_assoc}
use lib.ListN.{length, length-append}
use lib.Dec.{ltb}
use borrow.Author.Tests.{le-ltb, lt-leb, ltb-false, leb-false, not-false}
use Rattle.lists.proofs.All.{All, none, more}
use Rattle.areas.proofs.Tests.{clash, or_left, or_right}
use Rattle.mapping.specs.declared.Collection.{Collection}
use Rattle.mapping.specs.declared.Event.{Event}
use Rattle.mapping.specs.Mapped.{Mapped, event_key, rising}
use Rattle.mapping.specs.Commands.{with_events}
use Rattle.chains.specs.Slots.{capped}
use Rattle.tables.specs.Bytes.{event_at, event_slots}
use Rattle.tables.specs.Fault.{at_event}
use Rattle.tables.specs.Saved.{event_id}
use Rattle.described.specs.Described.{EventFields, Itt}
use Rattle.tables.specs.Restored.{found, event_tests, put_event, visit_event, read_events}
use Rattle.lists.proofs.Member.{all_in, all_of, all_map, map_all, length-map, map_back}
use Rattle.mapping.specs.Meaning.{Fit}
use Rattle.mapping.proofs.Meaning.{fits, fit_collected}
use Rattle.mapping.proofs.Rise.{rising_map}
use Rattle.described.proofs.Tried.{Passed, tried_is, tried_says}
use Rattle.described.proofs.Walks.{then_says, visits, Stops, walk_is, walk_says, chain_inside, chain_rise}

-- the events of one device, as its ITT describes them
pub record Held (t : List ℕ) (id : ℕ) (cs : List Collection) (es : List Event) : Type 0 where
  pub itt : Itt t es
  pub same : All (λ e. e.device ≡ id) es
  pub fit : All (Fit cs) es

pub event_pos : (t : List ℕ) → 0 < capped (event_slots t).cap 1
unfolding event_slots
event_pos t = omega arith

pub event_small : (t : List ℕ) (i : ℕ) → capped (event_slots t).cap ((event_slots t).next i) ≡ (event_slots t).next i
unfolding event_slots
event_small t i = refl

module _ (t : List ℕ) (id : ℕ) where
  passed : (i : ℕ) (k : Mapped) → Fit k.collections (event_at t id i) → length k.events < 1024 → Passed (event_tests true (event_at t id i) k)
  passed i k f h =
      let e = event_at t id i in
      let a : (ltb e.lpi 8192 || ltb 65535 e.lpi) ≡ false = rw (le-ltb e.lpi 8192 f.low, le-ltb 65535 e.lpi f.high) in
      more a (more refl (more (ap not (fit_collected k.collections e f)) (more (lt-leb 1024 (length k.events) h) none)))

  passes : (i : ℕ) (k : Mapped) → Passed (event_tests true (event_at t id i) k) → Fit k.collections (event_at t id i) × (length k.events < 1024)
  passes i k (more a (more b (more c (more d none)))) =
      let e = event_at t id i in (
        fits k.collections e (ltb-false e.lpi 8192 (or_left _ _ a)) (ltb-false 65535 e.lpi (or_right (ltb e.lpi 8192) _ a)) (not-false _ c),
        leb-false 1024 (length k.events) d,
      )

  event_is : (i : ℕ) (k : Mapped) → Fit k.collections (event_at t id i) → length k.events < 1024
      → visit_event t id true i k ≡ found (put_event (event_at t id i) k)
  unfolding visit_event
  event_is i k f h =
      let e = event_at t id i in tried_is (at_event id i) (event_tests true e k) (found (put_event e k)) (passed i k f h)

  event_says : (i : ℕ) (k h : Mapped) → visit_event t id true i k ≡ found h
      → Fit k.collections (event_at t id i) × (length k.events < 1024) × (h ≡ put_event (event_at t id i) k)
  unfolding visit_event
  event_says i k h p =
      let e = event_at t id i in
      let r = tried_says (at_event id i) (event_tests true e k) (found (put_event e k)) h p in
      let w = passes i k r.0 in
      let q = r.1 in
      (w.0, w.1, cc)

  event_stops : Stops (visit_event t id)
  unfolding visit_event
  event_stops i k h p =
      let e = event_at t id i in
      by (tried_says (at_event id i) (event_tests false e k) (found (put_event e k)) h p).0
    where
      by : Passed (event_tests false (event_at t id i) k) → ⊥
      by (more a (more b r)) = clash refl b

  events_are : (is : List ℕ) (k : Mapped) → All (λ i. Fit k.collections (event_at t id i)) is → length k.events + length is ≤ 1024
      → visits (visit_event t id true) is k ≡ found (with_events (k.events ++ map (event_at t id) is) k)
  events_are [] k none h = rw append-nil
  events_are (i ∷ is) k (more f r) h =
      let e = event_at t id i in
      rw (event_is i k f (omega arith), ← append_assoc k.events (e ∷ []) (map (event_at t id) is))
      (events_are is (put_event e k) r (omega (arith, length-append k.events (e ∷ []))))

  events_say : (is : List ℕ) (k h : Mapped) → length k.events ≤ 1024 → visits (visit_event t id true) is k ≡ found h
      → All (λ i. Fit k.collections (event_at t id i)) is × (length k.events + length is ≤ 1024) × (h ≡ with_events (k.events ++ map (event_at t id) is) k)
  events_say [] k h b p = (none, omega arith, rw append-nil (cc))
  events_say (i ∷ is) k h b p =
      let e = event_at t id i in
      let k' = put_event e k in
      let s = then_says (visit_event t id true i k) (visits (visit_event t id true) is) h p in
      let w = event_says i k s.0 s.1 in
      let q : visits (visit_event t id true) is k' ≡ found h = rw w.2 at s.2 in
      let n = length-append k.events (e ∷ []) in
      let r = events_say is k' h (omega (arith, w.1)) q in
      let x : (k.events ++ (e ∷ [])) ++ map (event_at t id) is ≡ k.events ++ (e ∷ map (event_at t id) is) = append_assoc k.events (e ∷ []) (map (event_at t id) is) in
      (more w.0 r.0, omega (arith, r.1), rw x at r.2)

  -- events that an ITT describes are those at its chained IDs
  at_ids : (cs : List Collection) (es : List Event) → Held t id cs es → map (event_at t id) (map event_id es) ≡ es
  at_ids cs es h = map_back event_id (event_at t id) es (all_of es (λ e m. back e (all_in es h.same m) (all_in es h.itt.fields m)))
    where
      back : (e : Event) → e.device ≡ id → EventFields t e → event_at t id e.event ≡ e
      back e d f = λ j. record { device = sym d j; event = e.event; lpi = f.lpi j; icid = f.icid j }

  -- what an ITT describes is read
  pub events_in : (k : Mapped) (es : List Event) → Held t id k.collections es → length k.events + length es ≤ 1024
      → read_events t id k ≡ found (with_events (k.events ++ es) k)
  unfolding read_events
  events_in k es h b =
      let a = at_ids k.collections es h in
      let is = map event_id es in
      let f : All (Fit k.collections) (map (event_at t id) is) = rw a h.fit in
      let r = events_are is k (map_all (event_at t id) is f) (omega (arith, length-map event_id es)) in
      walk_is (event_slots t) (visit_event t id) (event_pos t) is k h.itt.chain ∙ (rw a at r)

  -- what is read is described
  pub events_out : (k h : Mapped) → length k.events ≤ 1024 → read_events t id k ≡ found h
      → (es : List Event) × Held t id k.collections es × (length k.events + length es ≤ 1024) × (h ≡ with_events (k.events ++ es) k)
  unfolding read_events
  events_out k h b p =
      let w = walk_says (event_slots t) (visit_event t id) (event_pos t) event_stops (event_small t) k h p in
      let is = w.0 in
      let r = events_say is k h b w.2 in
      let es = map (event_at t id) is in
      let e : map event_id es ≡ is = map_back (event_at t id) event_id is (all_of is (λ i m. refl)) in (
        es,
        record {
          itt = record { chain = rw e w.1; fields = all_map (event_at t id) is (all_of is (λ i m. record { lpi = refl; icid = refl })) };
          same = all_map (event_at t id) is (all_of is (λ i m. refl));
          fit = all_map (event_at t id) is r.0;
        },
        omega (arith, r.1, length-map (event_at t id) is),
        r.2,
      )

  -- they are in the table, and rise
  pub held_inside : (cs : List Collection) (es : List Event) → Held t id cs es → All (λ e. e.event < (event_slots t).size) es
  held_inside cs es h = map_all event_id es (chain_inside (event_slots t) (map event_id es) h.itt.chain)

  pub held_rise : (cs : List Collection) (es : List Event) → Held t id cs es → rising event_key es ≡ true
  held_rise cs es h =
      let r = rising_map (event_at t id) (λ n. n) event_key (λ x y q. omega arith) (map event_id es) (chain_rise (event_slots t) (map event_id es) h.itt.chain) in
      rw (at_ids cs es h) at r
