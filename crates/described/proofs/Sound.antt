-- What a restore reads is described.
use Prim.Native.Nat.{ℕ, suc, ◌/◌, ◌≤◌, ◌<◌}
use native.Mathlib.Omega.{arith}
use mathlib.Core.Path.{◌≡◌, refl, sym, ap, ◌∙◌}
use mathlib.Core.Bool.{true}
use mathlib.Core.List.{List, [], ◌∷◌, ◌++◌, map, append-nil, append_assoc}
use lib.ListN.{length, length-append}
use borrow.Author.Tests.{eq-eqb, ne_eqb}
use Rattle.lists.proofs.All.{All, none, more, all_append}
use Rattle.lists.proofs.Member.{here, all_in, all_of, all_weaker, in_left, in_right, map-append}
use Rattle.lists.proofs.Pairs.{alone}
use Rattle.areas.proofs.Laws.{inside_says, apart_says, apart_is}
use Rattle.entries.proofs.Laws.{device_of_fits}
use Rattle.guest.specs.Machine.{Machine}
use Rattle.rules.specs.Rules.{memory_area, rules}
use Rattle.mapping.specs.declared.Device.{Device}
use Rattle.mapping.specs.declared.Event.{Event}
use Rattle.mapping.specs.Mapped.{Mapped, empty, device_key, collection_key, event_key, rising, itt_area}
use Rattle.mapping.specs.Commands.{device_entries, table_areas, with_collections}
use Rattle.mapping.specs.MapRules.{is_placed}
use Rattle.mapping.specs.Meaning.{DeviceRules, Owned, MappingRules}
use Rattle.mapping.proofs.Edits.{kept_append, kept_whole, kept_none}
use Rattle.mapping.proofs.Rise.{rises, risen, rising_one, rising_append}
use Rattle.mapping.proofs.Meaning.{mapping_is, event_small}
use Rattle.chains.specs.Slots.{Slots, Links}
use Rattle.tables.specs.Bytes.{entry_at, device_at, device_table, collection_table, itt_table, device_slots}
use Rattle.tables.specs.Saved.{is_of, events_of}
use Rattle.described.specs.Described.{Chain, DeviceFields, Itt, Described}
use Rattle.tables.specs.Restored.{Out, found, and_then, read_collections, read_devices, restored}
use Rattle.described.proofs.Walks.{then_says, visits, walk_says}
use Rattle.described.proofs.Places.{Ready, ready, tables_last}
use Rattle.described.proofs.Collects.{Gathered, gathered}
use Rattle.described.proofs.Events.{held_inside, held_rise}
use Rattle.described.proofs.Devices.{with_device, Next, visit, device_out, device_stops, device_pos, device_small}

module _ (m : Machine) (mem : List ℕ) (w : Ready m mem) where
  -- what is read so far; its IDs are below n
  record Part (n : ℕ) (k : Mapped) : Type 0 where
    pub ok : MappingRules m k
    pub below : All (λ d. d.id < n) k.devices
    pub fields : All (DeviceFields (device_table m mem)) k.devices
    pub itts : All (λ d. Itt (itt_table m mem d) (events_of d.id k.events)) k.devices

  -- one more device
  module _ (n : ℕ) (k : Mapped) (p : Part n k) (d : Device) (es : List Event) (above : n ≤ d.id) (id : d.id < device_entries m) (x : Next m mem k d es) where
    same : All (λ e. e.device ≡ d.id) es
    same = x.held.same

    earlier : All (λ e. e.device < n) k.events
    earlier = all_weaker (λ e o. let h = all_in k.devices p.below o.listed in let i = o.id in omega arith) k.events p.ok.owned

    -- each device's own events
    own_old : (b : Device) → b.id < n → events_of b.id (k.events ++ es) ≡ events_of b.id k.events
    own_old b h =
        let gone = kept_none (is_of b.id) es (all_weaker (λ e s. ne_eqb e.device b.id (λ q. omega arith)) es same) in
        kept_append (is_of b.id) k.events es ∙ rw (gone, append-nil)

    own_new : events_of d.id (k.events ++ es) ≡ es
    own_new =
        let gone = kept_none (is_of d.id) k.events (all_weaker (λ e s. ne_eqb e.device d.id (λ q. omega arith)) k.events earlier) in
        kept_append (is_of d.id) k.events es
        ∙ rw gone (kept_whole (is_of d.id) es (all_weaker (λ e s. eq-eqb e.device d.id s) es same))

    parts : DeviceRules m d
    parts =
        let f = x.fields in
        let g = device_of_fits (entry_at (device_table m mem) d.id) in
        let a = g.low in
        let b = g.page in
        let c = f.bits in
        let e = f.itt in
        record { id = id; some = omega arith; most = x.bits; page = rw e at b; within = inside_says (memory_area m.memory) (itt_area d) x.within }

    rise : rising event_key (k.events ++ es) ≡ true
    rise =
        rising_append event_key k.events es (risen event_key k.events p.ok.events_rise) (held_rise (itt_table m mem d) d.id k.collections es x.held)
        (all_of k.events (λ e i.
        let h : e.device < n = all_in k.events earlier i in
        let s : e.event < 65536 = event_small m k p.ok e (all_in k.events p.ok.owned i) in
        all_weaker (λ f q. omega arith) es same))

    owned : All (Owned (k.devices ++ (d ∷ []))) es
    owned = all_of es (λ e i.
        let q = all_in es (held_inside (itt_table m mem d) d.id k.collections es x.held) i in
        record { device = d; listed = in_right k.devices here; id = sym (all_in es same i); small = omega (arith, w.events d x.within) })

    part_more : Part (suc d.id) (with_device k d es)
    part_more =
        let o = p.ok in
        record {
          ok = record {
            few_collections_lem = o.few_collections_lem;
            few_devices_lem = omega (arith, length-append k.devices (d ∷ []), x.room);
            few_events_lem = omega (arith, length-append k.events es, x.limit);
            collections_rise = o.collections_rise;
            devices_rise = rises device_key (k.devices ++ (d ∷ []))
                (rising_append device_key k.devices (d ∷ []) (risen device_key k.devices o.devices_rise) (rising_one device_key d)
                (all_weaker (λ b h. let i : b.id < d.id = omega arith in more i none) k.devices p.below));
            events_rise = rises event_key (k.events ++ es) rise;
            collections = o.collections;
            devices = all_append k.devices o.devices (more parts none);
            apart = apart_says (table_areas m (k.devices ++ (d ∷ []))) (tables_last m k.devices d (apart_is (table_areas m k.devices) o.apart) x.clear);
            owned = all_append k.events
                (all_weaker (λ e q. record { device = q.device; listed = in_left (d ∷ []) q.listed; id = q.id; small = q.small }) k.events o.owned) owned;
            fit = all_append k.events o.fit x.held.fit;
          };
          below = all_append k.devices (all_weaker (λ b h. omega arith) k.devices p.below) (more (omega arith) none);
          fields = all_append k.devices p.fields (more x.fields none);
          itts = all_append k.devices
              (all_of k.devices (λ b i. rw (own_old b (all_in k.devices p.below i)) (all_in k.devices p.itts i)))
              (more (rw own_new x.held.itt) none);
        }

  abbrev slots : Slots
  slots = device_slots (device_table m mem)

  -- what a walk along chained devices leaves
  record Walked (k : Mapped) (ids : List ℕ) (h : Mapped) : Type 0 where
    pub bound : ℕ
    pub part : Part bound h
    pub keys : map device_key h.devices ≡ map device_key k.devices ++ ids
    pub collections : h.collections ≡ k.collections

  module _ (i n : ℕ) (k : Mapped) (p : Part n k) (above : n ≤ i) (inside : i < slots.size) where
    step : (f : Mapped → Out) (h : Mapped) → and_then (visit m mem true i k) f ≡ found h
        → (b : Mapped) × Part (suc i) b × (map device_key b.devices ≡ map device_key k.devices ++ (i ∷ [])) × (b.collections ≡ k.collections) × (f b ≡ found h)
    step f h q =
        let d = device_at (device_table m mem) i in
        let s = then_says (visit m mem true i k) f h q in
        let v = device_out m mem i k s.0 p.ok.few_events_lem s.1 in
        let part : Part (suc i) (with_device k d v.0) = part_more n k p d v.0 above (omega (arith, w.devices)) v.1 in
        (with_device k d v.0, part, map-append device_key k.devices (d ∷ []), refl, rw v.2 at s.2)

  walked : (js : List ℕ) (i n : ℕ) (k h : Mapped) → Part n k → n ≤ i → i < slots.size → Links slots i js → visits (visit m mem true) (i ∷ js) k ≡ found h → Walked k (i ∷ js) h
  walked [] i n k h p above inside l q =
      let r = step i n k p above inside (visits (visit m mem true) []) h q in
      let s = r.4 in
      let e : r.0 ≡ h = cc in
      record { bound = suc i; part = rw e at r.1; keys = rw e at r.2; collections = rw e at r.3 }
  walked (j ∷ js) i n k h p above inside l q =
      let r = step i n k p above inside (visits (visit m mem true) (j ∷ js)) h q in
      let s = walked js j (suc i) r.0 h r.1 l.0.rises l.0.inside l.1 r.4 in
      record {
        bound = s.bound;
        part = s.part;
        keys = s.keys ∙ rw r.2 (append_assoc (map device_key k.devices) (i ∷ []) (j ∷ js));
        collections = s.collections ∙ r.3;
      }

  -- collections alone
  start : (h : Mapped) → Gathered m (collection_table m mem) h → Part 0 h
  start h g = rw (← g.is) at p
    where
      p : Part 0 (with_collections h.collections empty)
      p =
          let l = g.rows in
          record {
            ok = record {
              few_collections_lem = l.few;
              few_devices_lem = omega arith;
              few_events_lem = omega arith;
              collections_rise = rises collection_key h.collections l.rise;
              devices_rise = alone;
              events_rise = alone;
              collections = l.parts;
              devices = none;
              apart = apart_says (table_areas m []) w.apart;
              owned = none;
              fit = none;
            };
            below = none;
            fields = none;
            itts = none;
          }

  along : (ids : List ℕ) (h k : Mapped) → Part 0 h → Chain slots ids → visits (visit m mem true) ids h ≡ found k → Walked h ids k
  along [] h k p c q =
      let e : h ≡ k = cc in
      record { bound = 0; part = rw e at p; keys = rw (e, append-nil); collections = rw e }
  along (i ∷ js) h k p c q = walked js i 0 h k p (omega arith) c.links.0 c.links.2 q

  reads_described : (k : Mapped) → restored m mem ≡ found k → Described m mem k
  unfolding restored read_devices
  reads_described k p =
      let t = collection_table m mem in
      let s = then_says (read_collections m t (length t / 8) 0 empty) (read_devices m mem) k p in
      let g = gathered m t s.0 s.1 in
      let c = walk_says slots (visit m mem) (device_pos (device_table m mem)) (device_stops m mem) (device_small (device_table m mem)) s.0 k s.2 in
      let a = along c.0 s.0 k (start s.0 g) c.1 c.2 in
      let n : s.0.devices ≡ [] = ap (λ (h : Mapped). h.devices) g.is in
      let e : map device_key k.devices ≡ c.0 = a.keys ∙ rw n in
      record {
        collections = rw a.collections g.described;
        devices = rw e c.1;
        fields = a.part.fields;
        itts = a.part.itts;
        allowed = mapping_is m k a.part.ok;
      }

-- a restore that is accepted reads what is described
pub sound : (m : Machine) (mem : List ℕ) (k : Mapped) → rules m ≡ true → is_placed m ≡ true → length mem ≡ m.memory.length
    → restored m mem ≡ found k → Described m mem k
sound m mem k r p n e = reads_described m mem (ready m mem n r p) k e
