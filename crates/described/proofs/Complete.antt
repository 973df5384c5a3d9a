-- What is described is what a restore reads.
use Prim.Native.Nat.{ℕ}
use native.Mathlib.Omega.{arith}
use mathlib.Core.Path.{◌≡◌, refl, sym, ap, ◌∙◌}
use mathlib.Core.Bool.{true}
use mathlib.Core.List.{List, [], ◌∷◌, ◌++◌, map, append-nil, append_assoc}
use lib.ListN.{length, length-append}
use Rattle.lists.proofs.Member.{In, here, all_in, all_weaker, in_right}
use Rattle.areas.specs.Area.{apart}
use Rattle.areas.proofs.Laws.{inside_is, apart_is}
use Rattle.guest.specs.Machine.{Machine}
use Rattle.rules.specs.Rules.{memory_area}
use Rattle.mapping.specs.declared.Device.{Device}
use Rattle.mapping.specs.Mapped.{Mapped, empty, device_key, collection_key, event_key, itt_area}
use Rattle.mapping.specs.Commands.{table_areas, with_collections}
use Rattle.mapping.specs.Meaning.{MappingRules}
use Rattle.mapping.proofs.Edits.{all_kept}
use Rattle.mapping.proofs.Rise.{risen}
use Rattle.mapping.proofs.Meaning.{mapping_says, event_small}
use Rattle.tables.specs.Bytes.{device_table, collection_table, device_slots}
use Rattle.tables.specs.Saved.{is_of, events_of}
use Rattle.described.specs.Described.{Described}
use Rattle.tables.specs.Restored.{Out, found, and_then, read_devices, restored}
use Rattle.described.proofs.Walks.{visits, walk_is}
use Rattle.described.proofs.Places.{tables_before}
use Rattle.described.proofs.Collects.{collected}
use Rattle.described.proofs.Devices.{with_device, Next, visit, device_in_lem, device_pos}
use Rattle.described.proofs.Joined.{joined, joined_append, joined_whole, own_same}

-- the first devices of a mapping, with their events
abbrev upto : Mapped → List Device → Mapped
upto k ds = record { collections = k.collections; devices = ds; events = joined k.events ds }

module _ (m : Machine) (mem : List ℕ) (k : Mapped) (d : Described m mem k) where
  rules : MappingRules m k
  rules = mapping_says m k d.allowed

  whole : joined k.events k.devices ≡ k.events
  whole =
      let o = rules in
      joined_whole k.events k.devices (risen device_key k.devices o.devices_rise) (risen event_key k.events o.events_rise)
      (all_weaker (event_small m k o) k.events o.owned) o.owned

  module _ (done rest : List Device) (b : Device) (e : done ++ (b ∷ rest) ≡ k.devices) where
    -- each device may come after those before it
    next : Next m mem (upto k done) b (events_of b.id k.events)
    next =
        let o = rules in
        let es = k.events in
        let own = events_of b.id es in
        let h : In b (done ++ (b ∷ rest)) = in_right done here in
        let i : In b k.devices = rw e at h in
        let p = all_in k.devices o.devices i in
        let a : apart (table_areas m (done ++ (b ∷ rest))) ≡ true = rw e (apart_is (table_areas m k.devices) o.apart) in
        let j : joined es done ++ (own ++ joined es rest) ≡ es = sym (joined_append es done (b ∷ rest)) ∙ ap (joined es) e ∙ whole in
        record {
          fields = all_in k.devices d.fields i;
          bits = p.most;
          room = omega (arith, length-append done (b ∷ rest), ap length e, o.few_devices_lem);
          within = inside_is (memory_area m.memory) (itt_area b) p.within;
          clear = tables_before m done b rest a;
          held = record { itt = all_in k.devices d.itts i; same = own_same es b; fit = all_kept (is_of b.id) es o.fit };
          limit = omega (arith, length-append (joined es done) (own ++ joined es rest), length-append own (joined es rest), ap length j, o.few_events_lem);
        }

    -- the mapping afterwards
    after : with_device (upto k done) b (events_of b.id k.events) ≡ upto k (done ++ (b ∷ []))
    after =
        let j : joined k.events done ++ events_of b.id k.events ≡ joined k.events (done ++ (b ∷ [])) =
        sym (joined_append k.events done (b ∷ []) ∙ rw (append-nil (events_of b.id k.events))) in
        λ x. record { collections = k.collections; devices = done ++ (b ∷ []); events = j x }

  along : (rest done : List Device) → done ++ rest ≡ k.devices → visits (visit m mem true) (map device_key rest) (upto k done) ≡ found (upto k k.devices)
  along [] done e = ap (λ (l : List Device). found (upto k l)) (sym (append-nil done) ∙ e)
  along (b ∷ rest) done e =
      ap (λ (o : Out). and_then o (visits (visit m mem true) (map device_key rest)))
      (device_in_lem m mem (upto k done) b (events_of b.id k.events) (next done rest b e) ∙ ap found (after done rest b e))
      ∙ along rest (done ++ (b ∷ [])) (append_assoc done (b ∷ []) rest ∙ e)

  pub complete : restored m mem ≡ found k
  unfolding restored read_devices
  complete =
      let o = rules in
      let c = collected m (collection_table m mem) k.collections d.collections (risen collection_key k.collections o.collections_rise) o.collections o.few_collections_lem in
      let t = device_table m mem in
      ap (λ (x : Out). and_then x (read_devices m mem)) c
      ∙ walk_is (device_slots t) (visit m mem) (device_pos t) (map device_key k.devices) (with_collections k.collections empty) d.devices
      ∙ along k.devices [] refl
      ∙ ap found (λ x. record { collections = k.collections; devices = k.devices; events = whole x })
