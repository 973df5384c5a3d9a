-- The samples of part 12, proved. Assumes nothing.
use Prim.Native.Nat.{ℕ, zero, suc, ◌+◌, ◌-◌, ◌*◌, ◌/◌, ◌^◌, ◌<◌}
use native.Mathlib.Omega.{arith}
use mathlib.Core.Path.{◌≡◌, refl, ◌∙◌}
use mathlib.Core.Bool.{Bool, true, false, ◌||◌}
use mathlib.Core.Logic.{◌⊎◌, inl, inr, ⊎_elim}
use mathlib.Core.List.{List, [], ◌∷◌}
use lib.ListN.{length, take, drop, replicate}
use lib.Dec.{eqb, ltb}
use borrow.Author.Tests.{lt-ltb, le-ltb, lt-leb}
use Rattle.lists.specs.Rows.{choose}
use Rattle.lists.proofs.All.{none, more, all_take, all_drop}
use Rattle.fields.specs.Field.{get_field, put_field}
use Rattle.words.specs.Words.{le, le_at, bytes_of}
use Rattle.areas.specs.declared.Area.{Area}
use Rattle.entries.specs.Device.{is_device, device_of, device_word}
use Rattle.entries.specs.Collection.{is_collection, collection_of, collection_word}
use Rattle.entries.specs.Event.{is_event, event_of, event_word}
use Rattle.guest.specs.Machine.{Machine, refuse, initialised, is_set}
use Rattle.rules.specs.Rules.{table_area}
use Rattle.frames.specs.Bases.{word_region, word_flags, region_fault, add_region}
use Rattle.frames.specs.Init.{locate, redist_base}
use Rattle.irqs.specs.Registers.{info_of, vintid_of, group7_fault, set_group7}
use Rattle.mapping.specs.Mapped.{Mapped, empty}
use Rattle.chains.specs.declared.Next.TheVariants.{Bad}
use Rattle.chains.specs.Slots.{Slots, Blank, scan, first_from, following, path}
use Rattle.chains.proofs.Scan.{found_at, found_none}
use Rattle.tables.specs.Fault.{at_device, at_event, fault_next, fault_lpi, at}
use Rattle.tables.specs.Bytes.{entry_at, event_at, area_bytes, device_table, collection_table, device_slots, event_slots}
use Rattle.tables.specs.Saved.{next_of, chain_word}
use Rattle.tables.specs.Restored.{Out, fault, found, run, walk, read_collections, visit_event, read_events, visit_device, read_devices, restored}
use Rattle.samples.specs.Samples.{Samples, regions, landing, leaving, Zeros}

same : (b : Bool) {x : ℕ} → choose b x x ≡ x
same true = refl
same false = refl

-- ---- §12.5

asked : (m : Machine) → m.regions ≡ regions → is_set m.frames.single ≡ false → initialised m ≡ true → 2 < length m.vcpus → redist_base 2 m ≡ record { errno = 0; number = 0x080C0000 }
unfolding redist_base locate word_region get_field
asked m r s i v = rw (i, lt-ltb 2 (length m.vcpus) v, s, r)

-- ---- §12.8 and §12.9: a walk whose first entry has a bad next

module _ (T : Slots) (visit : Bool → ℕ → Mapped → Out) (k : Mapped) (i : ℕ) (inside : i < T.size) (below : Blank T 0 i) (valid : T.valid i ≡ true) (bad : following T i ≡ Bad) where
  run_bad : (n : ℕ) → i < n → run visit (path T n i) k ≡ visit false i k
  unfolding run path
  run_bad zero h = absurd (omega arith)
  run_bad (suc n) h = rw bad

  walk_bad : walk T visit k ≡ visit false i k
  unfolding walk
  walk_bad = rw (found_at T 0 i (omega arith) inside below valid, lt-ltb i T.size inside) (run_bad T.size inside)

module _ (m : Machine) (mem : List ℕ) (k : Mapped) (d : ℕ) where
  lost : let t = device_table m mem in
      Blank (device_slots t) 0 d → d + 16382 < length t / 8
      → is_device (entry_at t d) ≡ true → (device_of (entry_at t d)).next ≡ 16382 → is_device (entry_at t (d + 16382)) ≡ false
      → (following (device_slots t) d ≡ Bad) × (read_devices m mem k ≡ fault (at (at_device d) fault_next))
  unfolding device_slots following read_devices visit_device
  lost below inside valid next blank =
      let bad : following (device_slots (device_table m mem)) d ≡ Bad = rw (next, lt-leb (length (device_table m mem) / 8) (d + 16382) inside, blank) in
      (bad, walk_bad (device_slots (device_table m mem)) _ k d (omega arith) below valid bad)

-- an event with a bad next, by its LPI
first : (t : List ℕ) (id : ℕ) (k : Mapped)
    → (visit_event t id false 5 k ≡ fault (at (at_event id 5) fault_lpi)) ⊎ (visit_event t id false 5 k ≡ fault (at (at_event id 5) fault_next))
unfolding visit_event
first t id k = by (ltb (event_at t id 5).lpi 8192 || ltb 65535 (event_at t id 5).lpi)
  where
    by : (b : Bool) → let lpi = fault (at (at_event id 5) fault_lpi) in let next = fault (at (at_event id 5) fault_next) in
        (choose b lpi next ≡ lpi) ⊎ (choose b lpi next ≡ next)
    by true = inl refl
    by false = inr refl

out : (t : List ℕ) (id : ℕ) (k : Mapped) → length t ≡ 8 * 2 ^ 3 → Blank (event_slots t) 0 5
    → is_event (entry_at t 5) ≡ true → (event_of (entry_at t 5)).next ≡ 3
    → (following (event_slots t) 5 ≡ Bad) ×
    ((read_events t id k ≡ fault (at (at_event id 5) fault_lpi)) ⊎ (read_events t id k ≡ fault (at (at_event id 5) fault_next)))
unfolding event_slots following read_events
out t id k size below valid next =
    let bad : following (event_slots t) 5 ≡ Bad = rw (next, size) in
    let inside : 5 < length t / 8 = rw size (omega arith) in
    let e = walk_bad (event_slots t) (visit_event t id) k 5 inside below valid bad in
    (bad, ⊎_elim (λ f. inl (e ∙ f)) (λ f. inr (e ∙ f)) (first t id k))

-- ---- §12.10

zeros : (n : ℕ) → Zeros (replicate n 0)
zeros zero = none
zeros (suc n) = more refl (zeros n)

le_zeros : (l : List ℕ) → Zeros l → le l ≡ 0
unfolding le
le_zeros [] none = refl
le_zeros (b ∷ l) (more e r) = rw (e, le_zeros l r)

entry_zeros : (t : List ℕ) (i : ℕ) → Zeros t → entry_at t i ≡ 0
unfolding entry_at le_at
entry_zeros t i z = le_zeros (take 8 (drop (i * 8) t)) (all_take 8 (drop (i * 8) t) (all_drop (i * 8) t z))

blank_zeros : (t : List ℕ) → Zeros t → Blank (device_slots t) 0 (device_slots t).size
unfolding device_slots is_device get_field
blank_zeros t z i a b = rw (entry_zeros t i z)

module _ (m : Machine) where
  no_collections : (t : List ℕ) (n : ℕ) → Zeros t → read_collections m t n 0 empty ≡ found empty
  unfolding read_collections is_collection get_field
  no_collections t zero z = refl
  no_collections t (suc n) z = rw (entry_zeros t 0 z)

  no_devices : (mem : List ℕ) → Zeros (device_table m mem) → read_devices m mem empty ≡ found empty
  unfolding read_devices walk
  no_devices mem z =
      let t = device_table m mem in
      rw (found_none (device_slots t) 0 (omega arith) (blank_zeros t z), le-ltb (device_slots t).size (device_slots t).size (omega arith))

  nothing : (mem : List ℕ) → Zeros (device_table m mem) → Zeros (collection_table m mem) → restored m mem ≡ found empty
  unfolding restored
  nothing mem d c = rw (no_collections (collection_table m mem) (length (collection_table m mem) / 8) c) (no_devices mem d)

  area_zeros : (n : ℕ) (a : Area) → Zeros (area_bytes m (replicate n 0) a)
  unfolding area_bytes
  area_zeros n a =
      let from = a.start - m.memory.start in
      all_take a.size (drop from (replicate n 0)) (all_drop from (replicate n 0) (zeros n))

  nothing_at_all : (n : ℕ) → restored m (replicate n 0) ≡ found empty
  nothing_at_all n = nothing (replicate n 0) (area_zeros n (table_area m.tables.devices)) (area_zeros n (table_area m.tables.collections))

-- ---- §12.11 and §12.12

uneven : (attribute value : ℕ) (m : Machine) → vintid_of attribute ≡ 16 → initialised m ≡ true → (group7_fault attribute 4 m ≡ 22) × (set_group7 attribute 4 value m ≡ refuse m 22)
unfolding group7_fault set_group7
uneven attribute value m v i =
    let e : group7_fault attribute 4 m ≡ 22 = rw (i, v) (same (eqb (info_of attribute) 0)) in
    (e, rw e)

none_counted : (w : ℕ) (m : Machine) → (word_region w).count ≡ 0 → (region_fault w m ≡ 22) × (add_region w m ≡ refuse m 22)
unfolding region_fault add_region
none_counted w m c =
    let e : region_fault w m ≡ 22 = rw (c, same (eqb (word_flags w) 0)) (same (is_set m.frames.single)) in
    (e, rw e)

-- all twelve
pub proved : Samples
unfolding get_field put_field word_region bytes_of is_device device_of device_word is_collection collection_of collection_word is_event event_of event_word locate next_of chain_word scan first_from following path le le_at entry_at device_slots event_slots run walk visit_event read_events visit_device landing leaving
proved = record {
  p1 = (refl, refl, refl);
  p2 = (refl, refl, refl, refl);
  p3 = (refl, refl, refl);
  p4 = (refl, refl, refl);
  p5 = (refl, asked);
  p6 = (refl, refl);
  p7 = (refl, refl);
  p8 = (refl, λ m mem k. refl, lost);
  p9 = (refl, refl, λ id k. refl, out);
  p10 = (nothing, nothing_at_all);
  p11 = (refl, uneven);
  p12 = (refl, none_counted);
}
