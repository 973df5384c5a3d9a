-- §8.1: whether bytes describe a mapping hangs on the saved bytes alone, and of the machine on the memory's place, the tables' places and
-- the number of VCPUs.
use Prim.Native.Nat.{ℕ, ◌+◌, ◌<◌}
use mathlib.Core.Path.{◌≡◌, sym, ◌∙◌}
use mathlib.Core.Bool.{true}
use mathlib.Core.List.{List}
use lib.ListN.{length, get_or}
use Rattle.lists.proofs.All.{All}
use Rattle.areas.specs.declared.Area.{Area}
use Rattle.areas.specs.Area.{inside}
use Rattle.guest.specs.Machine.{Machine}
use Rattle.rules.specs.Rules.{table_area, memory_area, rules}
use Rattle.mapping.specs.declared.Device.{Device}
use Rattle.mapping.specs.declared.Collection.{Collection}
use Rattle.mapping.specs.Mapped.{Mapped, itt_area}
use Rattle.mapping.specs.Commands.{table_areas}
use Rattle.mapping.specs.MapRules.{is_placed, device_ok, collection_ok, mapping_ok}
use Rattle.tables.specs.Bytes.{area_bytes, device_table, collection_table, itt_table}
use Rattle.described.specs.Described.{Described}
use Rattle.lists.proofs.Member.{all_of, map_all}
use Rattle.savedlaws.proofs.Member.{all_both, all_first, all_rest}
use Rattle.savedlaws.proofs.Parts.{ok}
use Rattle.savedlaws.proofs.Places.{devices_inside, collections_inside, within}
use Rattle.savedlaws.proofs.Writes.{Holds, part_same}

-- the same bytes in every table, of two machines
pub record Agree (m : Machine) (mem : List ℕ) (m' : Machine) (mem' : List ℕ) (k : Mapped) : Type 0 where
  pub devices : device_table m mem ≡ device_table m' mem'
  pub collections : collection_table m mem ≡ collection_table m' mem'
  pub itts : All (λ d. itt_table m mem d ≡ itt_table m' mem' d) k.devices

described_moved : (m m' : Machine) (mem mem' : List ℕ) (k : Mapped) → Agree m mem m' mem' k → mapping_ok m' k ≡ true → Described m mem k
    → Described m' mem' k
described_moved m m' mem mem' k a o d = record {
  collections = rw a.collections at d.collections;
  devices = rw a.devices at d.devices;
  fields = rw a.devices at d.fields;
  itts = all_both (λ x e i. rw e at i) k.devices a.itts d.itts;
  allowed = o;
}

-- other bytes elsewhere
pub described_local : (m : Machine) (mem mem' : List ℕ) (k : Mapped) → Agree m mem m mem' k → Described m mem k → Described m mem' k
described_local m mem mem' k a d = described_moved m m mem mem' k a d.allowed d

-- memory that is the same, byte by byte, where the saved bytes are
abbrev pub SameIn : Machine → List ℕ → List ℕ → Area → Type 0
SameIn m mem mem' a = (i : ℕ) → i < length mem → Holds a (m.memory.start + i) → get_or mem i 0 ≡ get_or mem' i 0

module _ (m : Machine) (mem mem' : List ℕ) (size : length mem ≡ length mem') where
  pub area_same : (a : Area) → inside (memory_area m.memory) a ≡ true → SameIn m mem mem' a → area_bytes m mem a ≡ area_bytes m mem' a
  unfolding area_bytes
  area_same a w f = part_same m.memory.start mem mem' a (within m a w).low size f

  pub tables_same : (k : Mapped) → rules m ≡ true → is_placed m ≡ true → mapping_ok m k ≡ true → All (SameIn m mem mem') (table_areas m k.devices)
      → Agree m mem m mem' k
  unfolding table_areas
  tables_same k r p o f = record {
    devices = area_same (table_area m.tables.devices) (devices_inside m r p) (all_first f);
    collections = area_same (table_area m.tables.collections) (collections_inside m r p) (all_first (all_rest f));
    itts =
        all_both (λ d q g. area_same (itt_area d) q.within g) k.devices (ok m k o).devices
        (map_all itt_area k.devices (all_rest (all_rest f)));
  }

-- two machines with the same memory, the same two tables' places and as many VCPUs
pub record Alike (m m' : Machine) : Type 0 where
  pub start : m.memory.start ≡ m'.memory.start
  pub size : m.memory.length ≡ m'.memory.length
  pub devices : m.tables.devices.start ≡ m'.tables.devices.start
  pub device_pages_lem : m.tables.devices.pages ≡ m'.tables.devices.pages
  pub collections : m.tables.collections.start ≡ m'.tables.collections.start
  pub collection_pages_lem : m.tables.collections.pages ≡ m'.tables.collections.pages
  pub vcpus : length m.vcpus ≡ length m'.vcpus

module _ (m m' : Machine) (a : Alike m m') where
  alike_collection : (c : Collection) → collection_ok m c ≡ collection_ok m' c
  unfolding collection_ok
  alike_collection c = rw a.vcpus

  alike_device : (d : Device) → device_ok m d ≡ device_ok m' d
  unfolding device_ok inside
  alike_device d = rw (a.device_pages_lem, a.start, a.size)

  alike_areas : (ds : List Device) → table_areas m ds ≡ table_areas m' ds
  unfolding table_areas
  alike_areas ds = rw (a.devices, a.device_pages_lem, a.collections, a.collection_pages_lem)

  pub alike_ok : (k : Mapped) → mapping_ok m k ≡ mapping_ok m' k
  unfolding mapping_ok
  alike_ok k =
      let c : collection_ok m ≡ collection_ok m' = λ i c. alike_collection c i in
      let d : device_ok m ≡ device_ok m' = λ i d. alike_device d i in
      rw (c, d, alike_areas k.devices)

  pub alike_agree : (mem : List ℕ) (k : Mapped) → Agree m mem m' mem k
  unfolding area_bytes
  alike_agree mem k = record {
    devices = rw (a.start, a.devices, a.device_pages_lem);
    collections = rw (a.start, a.collections, a.collection_pages_lem);
    itts = all_of k.devices (λ d i. rw a.start);
  }

  pub described_alike : (mem : List ℕ) (k : Mapped) → Described m mem k → Described m' mem k
  described_alike mem k d = described_moved m m' mem mem k (alike_agree mem k) (sym (alike_ok k) ∙ d.allowed) d
