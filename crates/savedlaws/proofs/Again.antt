-- Where a save's bytes stand, in whatever else memory holds and on whatever machine has the same memory, tables and number of VCPUs,
-- they describe the mapping that was saved.
use Prim.Native.Nat.{ℕ}
use mathlib.Core.Path.{◌≡◌, sym, ◌∙◌}
use mathlib.Core.Bool.{true}
use mathlib.Core.List.{List}
use lib.ListN.{length}
use Rattle.lists.proofs.All.{All}
use Rattle.guest.specs.Machine.{Machine}
use Rattle.rules.specs.Rules.{rules}
use Rattle.mapping.specs.Mapped.{Mapped}
use Rattle.mapping.specs.Commands.{table_areas}
use Rattle.mapping.specs.MapRules.{is_placed, map_rules}
use Rattle.tables.specs.Saved.{saved_memory}
use Rattle.described.specs.Described.{Described}
use Rattle.savedlaws.proofs.Saved.{saved_length}
use Rattle.savedlaws.proofs.Describes.{saved_described}
use Rattle.savedlaws.proofs.Local.{SameIn, Alike, tables_same, described_local, described_alike}

pub saved_again : (m : Machine) (k : Mapped) (mem : List ℕ) → rules m ≡ true → is_placed m ≡ true → map_rules m k ≡ true → length mem ≡ m.memory.length
    → (m' : Machine) (mem' : List ℕ) → Alike m m' → length mem' ≡ m'.memory.length
    → All (SameIn m (saved_memory m k mem) mem') (table_areas m k.devices)
    → Described m' mem' k
saved_again m k mem sound placed mapped size m' mem' a size' same =
    let saved = saved_memory m k mem in
    let d = saved_described m k mem sound placed mapped size in
    let e = saved_length m k mem sound placed mapped size ∙ size ∙ a.size ∙ sym size' in
    described_alike m m' a mem' k (described_local m saved mem' k (tables_same m saved mem' e k sound placed d.allowed same) d)
