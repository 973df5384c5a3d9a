-- The empty mapping, placing the tables, and a machine whose memory and tables stay.
use Prim.Native.Nat.{ℕ, ◌%◌, ◌≤◌}
use native.Mathlib.Omega.{arith}
use mathlib.Core.Path.{◌≡◌, refl}
use mathlib.Core.Bool.{Bool, true, false, ◌&&◌}
use mathlib.Core.List.{[], ◌∷◌}
use lib.ListN.{length}
use lib.Dec.{leb, eqb, lit≤}
use borrow.Author.Tests.{leb-true, eqb-true}
use Rattle.lists.specs.Rows.{find_ix}
use Rattle.lists.proofs.All.{none}
use Rattle.areas.specs.declared.Area.{Area}
use Rattle.areas.specs.Area.{inside, overlaps, struck, strikes, apart}
use Rattle.areas.proofs.Tests.{split, and_left, and_right}
use Rattle.guest.specs.declared.Memory.{Memory}
use Rattle.guest.specs.declared.Table.{Table}
use Rattle.guest.specs.Machine.{Machine, no_tables, with_tables}
use Rattle.rules.specs.Standing.{standing}
use Rattle.rules.specs.Rules.{memory_area, table_area, frames_ok, init_ok, untouched, its_ok, table_ok, rules}
use Rattle.rules.proofs.Parts.{table_whole, tables_whole, rules_parts, rules_whole}
use Rattle.rules.proofs.Facts.{sound_tables}
use Rattle.kept.proofs.Choice.{choose_by}
use Rattle.mapping.specs.Mapped.{Mapped, empty, rising}
use Rattle.mapping.specs.Commands.{table_areas, is_empty, well_formed, place_fault}
use Rattle.mapping.specs.MapRules.{is_placed, map_rules}
use Rattle.mapkept.proofs.Edits.{all_weaker}
use Rattle.mapkept.proofs.Sound.{Sound, mapping_parts, mapping_whole, sound_mapping, is_empty_lem, unplaced_empty}

-- two areas that do not overlap
two_apart : (a b : Area) → overlaps a b ≡ false → apart (a ∷ b ∷ []) ≡ true
unfolding apart strikes struck find_ix
two_apart a b e = rw e

empty_sound : (m : Machine) → rules m ≡ true → Sound m empty
unfolding rising table_areas
empty_sound m r = record {
  few_collections = lit≤ tt;
  few_devices = lit≤ tt;
  few_events = lit≤ tt;
  rising_collections = refl;
  rising_devices = refl;
  rising_events = refl;
  collections = none;
  devices = none;
  apart = two_apart (table_area m.tables.devices) (table_area m.tables.collections) (sound_tables m r).apart;
  events = none;
}

pub empty_ok : (m : Machine) → rules m ≡ true → map_rules m empty ≡ true
unfolding map_rules
empty_ok m r = choose_by (λ (b : Bool). b ≡ true) (is_placed m) (λ _. mapping_whole m empty (empty_sound m r)) (λ _. refl)

-- whether or not the tables are placed
pub sound : (m : Machine) (k : Mapped) → rules m ≡ true → map_rules m k ≡ true → Sound m k
sound m k r e = by (is_placed m) refl
  where
    by : (b : Bool) → is_placed m ≡ b → Sound m k
    by true i = sound_mapping m k i e
    by false i = rw (unplaced_empty m k i e) (empty_sound m r)

-- tables that may be placed
record Fits (d c : Table) (m : Machine) (k : Mapped) : Type 0 where
  no_rows : is_empty k ≡ true
  devices : well_formed d ≡ true
  collections : well_formed c ≡ true
  device_within : inside (memory_area m.memory) (table_area d) ≡ true
  collection_within : inside (memory_area m.memory) (table_area c) ≡ true
  apart : overlaps (table_area d) (table_area c) ≡ false

tables_fit : (d c : Table) (m : Machine) (k : Mapped) → place_fault d c m k ≡ 0 → Fits d c m k
unfolding place_fault
tables_fit d c m k =
    choose_by P (is_empty k) (λ n.
    choose_by P (well_formed d && well_formed c) (λ w.
    choose_by P (inside (memory_area m.memory) (table_area d) && inside (memory_area m.memory) (table_area c)) (λ i.
    choose_by P (overlaps (table_area d) (table_area c)) (λ _ z. absurd (omega arith)) (λ a _.
    record {
      no_rows = n;
      devices = and_left (well_formed d) (well_formed c) w;
      collections = and_right (well_formed d) (well_formed c) w;
      device_within = and_left (inside (memory_area m.memory) (table_area d)) (inside (memory_area m.memory) (table_area c)) i;
      collection_within = and_right (inside (memory_area m.memory) (table_area d)) (inside (memory_area m.memory) (table_area c)) i;
      apart = a;
    }))
    (λ _ z. absurd (omega arith)))
    (λ _ z. absurd (omega arith)))
    (λ _ z. absurd (omega arith))
  where
    P : ℕ → Type 0
    P e = e ≡ 0 → Fits d c m k

pub place_empty : (d c : Table) (m : Machine) (k : Mapped) → place_fault d c m k ≡ 0 → k ≡ empty
place_empty d c m k z = is_empty_lem k (tables_fit d c m k z).no_rows

-- a table in its place
table_placed : (r : Memory) (t : Table) → t.set ≡ 1 → well_formed t ≡ true → inside (memory_area r) (table_area t) ≡ true → table_ok r t ≡ true
unfolding well_formed
table_placed r t s w i =
    let p = split (eqb (t.start % 4096) 0) (leb 1 t.pages ∷ leb t.pages 128 ∷ []) w in
    table_whole r t (record {
      mark = omega arith;
      start = eqb-true (t.start % 4096) 0 p.0;
      some = λ _. leb-true 1 t.pages p.1.0;
      most = leb-true t.pages 128 p.1.1;
      within = λ _. i;
      unset = λ z. absurd (omega arith);
    })

module _ (d c : Table) (m : Machine) (k : Mapped) (z : place_fault d c m k ≡ 0) (ds : d.set ≡ 1) (cs : c.set ≡ 1) (r : rules m ≡ true) (i : m.control.itsinit ≡ 1) where
  pub place_rules : rules (with_tables (record { devices = d; collections = c }) m) ≡ true
  unfolding frames_ok standing init_ok untouched its_ok
  place_rules =
      let p = rules_parts m r in
      let f = tables_fit d c m k z in
      let after = with_tables (record { devices = d; collections = c }) m in
      rules_whole after (record {
        memory = p.memory;
        control = p.control;
        frames = p.frames;
        init = p.init;
        vcpus = p.vcpus;
        shared = p.shared;
        last = p.last;
        untouched = p.untouched;
        its = p.its;
        tables =
            tables_whole after (record {
              devices = table_placed m.memory d ds f.devices f.device_within;
              collections = table_placed m.memory c cs f.collections f.collection_within;
              together = omega arith;
              after = omega arith;
              apart = f.apart;
            });
      })

  pub place_keeps : map_rules (with_tables (record { devices = d; collections = c }) m) k ≡ true
  place_keeps =
      rw (place_empty d c m k z)
      (empty_ok (with_tables (record { devices = d; collections = c }) m) place_rules)

-- no tables
pub unplace_keeps : (m : Machine) → map_rules (with_tables no_tables m) empty ≡ true
unfolding map_rules
unplace_keeps m = refl

-- a machine with the same memory and tables and no fewer VCPUs
module _ (m next : Machine) (k : Mapped) (r : next.memory ≡ m.memory) (t : next.tables ≡ m.tables) (v : length m.vcpus ≤ length next.vcpus) where
  machine_sound : Sound m k → Sound next k
  unfolding table_areas
  machine_sound s = record {
    few_collections = s.few_collections;
    few_devices = s.few_devices;
    few_events = s.few_events;
    rising_collections = s.rising_collections;
    rising_devices = s.rising_devices;
    rising_events = s.rising_events;
    collections = all_weaker (λ c p. record { icid = p.icid; pe = omega (arith, p.pe) }) k.collections s.collections;
    devices =
        all_weaker (λ d p. record { id = rw t p.id; some = p.some; most = p.most; start = p.start; within = rw r p.within }) k.devices
        s.devices;
    apart = rw t s.apart;
    events = s.events;
  }

  pub machine_keeps : map_rules m k ≡ true → map_rules next k ≡ true
  unfolding map_rules
  machine_keeps e =
      choose_by (λ (b : Bool). b ≡ true) (is_placed next)
      (λ i. mapping_whole next k (machine_sound (mapping_parts m k (rw (rw t at i) at e))))
      (λ i. rw (rw t at i) at e)
