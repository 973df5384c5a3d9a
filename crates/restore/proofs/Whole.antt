-- The two halves of a restore make the whole. Assumes nothing.
use Prim.Native.Nat.{ℕ, ◌/◌, ◌≤◌}
use native.Mathlib.Omega.{arith}
use mathlib.Core.Path.{◌≡◌, refl, sym, ap, ap₂, ◌∙◌}
use mathlib.Core.Bool.{true}
use mathlib.Core.List.{List}
use lib.ListN.{length, length-take}
use Rattle.std.specs.Prelude.{Result, Ok, Err, ⊤}
use borrow.Author.Tests.{eqb-true}
use Rattle.areas.specs.declared.Area.{Area}
use Rattle.areas.specs.Area.{inside}
use Rattle.chains.specs.Slots.{Slots}
use Rattle.guest.specs.declared.Memory.{Memory}
use Rattle.guest.specs.declared.Tables.{Tables}
use Rattle.guest.specs.Machine.{Machine}
use Rattle.rules.specs.Rules.{table_area, memory_area}
use Rattle.rules.proofs.Facts.{sound_tables, sound_devices, sound_collections}
use Rattle.mapping.specs.Mapped.{Mapped, empty}
use Rattle.layout.specs.Layout.{decode, memory_of, tables_of}
use Rattle.maplayout.specs.MapLayout.{stored_map}
use Rattle.tables.specs.Bytes.{area_bytes, device_table, collection_table, device_slots}
use Rattle.tables.specs.Fault.{Fault, code}
use Rattle.codes.specs.Codes.{fault_is, code_met}
use Rattle.codes.specs.declared.Fault as faults
use Rattle.tables.specs.Restored.{Out, fault, found, walk, and_then, read_collections, visit_device, read_devices, restored, verdict}
use Rattle.restore.specs.Restores.{Restorable, Reads}
use Rattle.restore.specs.Begun.{Over, Begun, ByFault, Gives, Steps}
use Rattle.restore.specs.Both.{slots_of}
use Rattle.restore.specs.Parts.{bytes_in}
use Rattle.restore.proofs.Both.{device_slots_lem}
use Rattle.restore.proofs.Over.{same_guest, over_empty}
use Rattle.restore.proofs.Searches.{device_table_lem, collection_table_lem, device_pages_lem, collection_pages_lem}
use Rattle.restore.proofs.Devices.{memory_loaded, memory_long}
use Rattle.restore.proofs.Answers.{not_both, same_fault, gives_as, stopped, went}

pub devices_walk : (m : Machine) (mem t : List ℕ) (k : Mapped) → walk (slots_of true t) (visit_device m mem t) k ≡ walk (device_slots t) (visit_device m mem t) k
devices_walk m mem t k = ap (λ (T : Slots). walk T (visit_device m mem t) k) (device_slots_lem t)

-- the two tables, by the memory and the places that were loaded: both are inside memory
module _ (s mem : List ℕ) (v : Restorable s (length mem)) (r : Memory) (p : r ≡ memory_of s) (x : Tables) (e : x ≡ tables_of s) where
  memory : r ≡ (decode s).memory
  memory = memory_loaded s r p

  placed : (decode s).tables.devices.set ≡ 1
  placed = eqb-true (decode s).tables.devices.set 1 v.placed

  pub collections_inside : (a : Area) → a ≡ table_area x.collections → (inside (memory_area r) a ≡ true) × (length mem ≡ r.length)
  collections_inside a f = (
    rw (memory, collection_table_lem s x e a f) ((sound_collections (decode s) v.rules).within (sym (sound_tables (decode s) v.rules).together ∙ placed)),
    memory_long s r p (length mem) v.memory,
  )

  pub devices_inside : (a : Area) → a ≡ table_area x.devices → (inside (memory_area r) a ≡ true) × (length mem ≡ r.length)
  devices_inside a f =
      (rw (memory, device_table_lem s x e a f) ((sound_devices (decode s) v.rules).within placed), memory_long s r p (length mem) v.memory)

  bytes : (a b : Area) → a ≡ b → (t : List ℕ) → t ≡ bytes_in r mem a → t ≡ area_bytes (decode s) mem b
  unfolding area_bytes
  bytes a b f t g = g ∙ ap₂ (λ (y : Memory) (z : Area). bytes_in y mem z) memory f

  -- at most 65,536 entries
  pub collections_few : (a : Area) → a ≡ table_area x.collections → (t : List ℕ) → t ≡ bytes_in r mem a → length t / 8 ≤ 65536
  collections_few a f t g =
      let h = collection_pages_lem s x e v.rules in
      rw (g, f) (simp length-take (omega arith))

  pub collections_bytes : (a : Area) → a ≡ table_area x.collections → (t : List ℕ) → t ≡ bytes_in r mem a → t ≡ collection_table (decode s) mem
  collections_bytes a f t g = bytes a _ (collection_table_lem s x e a f) t g

  module _ (a : Area) (f : a ≡ table_area x.devices) (t : List ℕ) (g : t ≡ bytes_in r mem a) where
    pub devices_bytes : t ≡ device_table (decode s) mem
    devices_bytes = bytes a _ (device_table_lem s x e a f) t g

    -- at most 65,536 entries
    pub devices_few : length t / 8 ≤ 65536
    devices_few =
        let h = device_pages_lem s x e v.rules in
        rw (g, f) (simp length-take (omega arith))

-- an answer as the caller has it
abbrev tag : Out → ℕ
tag (fault f) = 0
tag (found k) = 1

abbrev rows_in : Out → Mapped
rows_in (fault f) = empty
rows_in (found k) = k

abbrev fault_in : Fault → Out → Fault
fault_in e (fault f) = f
fault_in e (found k) = e

two_outs : (out : Out) (k : Mapped) (f : Fault) → out ≡ found k → out ≡ fault f → ⊥
two_outs out k f p q = let z : ◌≡◌ {A = ℕ} 0 1 = sym (ap tag q) ∙ ap tag p in omega arith

reads_of : (s : List ℕ) (out : Out) (r : Result ⊤ faults.Fault) (t : List ℕ) → Gives ByFault s out r t → Reads s out r t
reads_of s out (Ok u) t v =
    let a = v.reads refl in
    record {
      is = rw a.1;
      named = λ f p. absurd (two_outs out a.0 f a.1 p);
      stored = λ k p. a.2.is ∙ ap (λ (j : Mapped). stored_map j s) (sym (ap rows_in a.1) ∙ ap rows_in p);
    }
reads_of s out (Err e) t v =
    let a = v.stops e refl in
    record {
      is = rw (a.1, a.2.1);
      named = λ f p. rw (sym (ap (fault_in f) a.1) ∙ ap (fault_in f) p) at a.2.0;
      stored = λ k p. absurd (two_outs out k a.0 p a.1);
    }

-- the answer as a fault, and as a code
pub reads_fault : {s : List ℕ} (out : Out) (f : faults.Fault) {t : List ℕ} → Reads s out (Err f) t → out ≡ fault (fault_is f)
reads_fault (fault g) f v = ap fault (sym (same_fault _ _ v.is))
reads_fault (found k) f v = absurd (not_both v.is)

pub reads_code : {s : List ℕ} (out : Out) (r : Result ⊤ faults.Fault) {t : List ℕ} → Reads s out r t → code_met r ≡ verdict out
reads_code (fault g) (Ok u) v = absurd (not_both (sym v.is))
reads_code (fault g) (Err f) v = ap code (same_fault _ _ v.is)
reads_code (found k) (Ok u) v = refl
reads_code (found k) (Err f) v = absurd (not_both v.is)

-- the bytes with no mapping, the collections, and what comes after them
module _ (s mem : List ℕ) (v : Restorable s (length mem)) (none : List ℕ) (e : none ≡ stored_map empty s) where
  start : Over s empty none
  start = over_empty s none v.counted v.rules e

  pub restore_begun : Begun none
  restore_begun = record { from = s; rows = empty; over = start }

  module _ (c : List ℕ) (q : c ≡ collection_table (decode s) mem) (u : List ℕ) where
    first : and_then (read_collections (decode s) c (length c / 8) 0 empty) (read_devices (decode s) mem) ≡ restored (decode s) mem
    unfolding restored
    first = rw q

    pub restore_fault : (f : faults.Fault) → Steps ByFault (λ m. read_collections m c (length c / 8) 0) none (Err f) u → Reads s (restored (decode s) mem) (Err f) u
    restore_fault f d = reads_of s _ (Err f) u (gives_as (stopped (d s empty start) f refl (read_devices (decode s) mem)) first)

    module _ (d : Steps ByFault (λ m. read_collections m c (length c / 8) 0) none (Ok tt) u) where
      given : Gives ByFault s (read_collections (decode s) c (length c / 8) 0 empty) (Ok tt) u
      given = d s empty start

      pub restore_read : Begun u
      restore_read = record { from = s; rows = (given.reads refl).0; over = (given.reads refl).2 }

      pub restore_memory : length mem ≡ (decode u).memory.length
      restore_memory = v.memory ∙ ap (λ (m : Machine). m.memory.length) (sym (same_guest (given.reads refl).2))

      pub restore_rest : (t : List ℕ) → t ≡ device_table (decode s) mem → (r : Result ⊤ faults.Fault) (w : List ℕ)
          → Steps ByFault (λ m. walk (device_slots t) (visit_device m mem t)) u r w → Reads s (restored (decode s) mem) r w
      unfolding read_devices
      restore_rest t p r w f =
          reads_of s _ r w
          (gives_as (f s (given.reads refl).0 (given.reads refl).2)
          (ap (λ (x : List ℕ). walk (device_slots x) (visit_device (decode s) mem x) (given.reads refl).0) p ∙ sym (went given refl (read_devices (decode s) mem)) ∙ first))
