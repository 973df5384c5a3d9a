-- `mapcheck::devices_ok` meets its contract. Assumes nothing.
use native.Mathlib.Omega.{arith}
use mathlib.Core.Path.{refl, ◌∙◌}
use mathlib.Core.Bool.{Bool}
use lib.ListN.{get_or}
use Rattle.std.proofs.Common.{rules, ◌*◌}
use Rattle.std.proofs.lemmas.Iterator.{YieldsList-from_range}
use Rattle.std.proofs.lemmas.Iterator.Search.{all_from_yields_List}
use Rattle.mapping.specs.declared.Device.{Device}
use Rattle.mapping.specs.Mapped.{no_device}
use Rattle.maplayout.specs.MapLayout.{decode_map}
use Rattle.mapcheck.proofs.Loops.{all_rows}
use Rattle.mapcheck.proofs.Verdicts.{is_device, devices_same, memory_read, tables_read, pages_few}
use Rattle.mapcheck.proofs.devices_ok.Goals as goal

pub overflow_mul-entries : goal.overflow_mul-entries
overflow_mul-entries c =
    omega (arith, (pages_few _ c.requires.rules c.load_tables-tables.ensures).0)

pub returns : goal.returns
returns c =
    let p : Device → Bool = is_device c.load_memory-memory.result (512 * c.load_tables-tables.result.devices.pages) in
    devices_same _ _ _ _ (memory_read _ c.load_memory-memory.ensures) (tables_read _ c.load_tables-tables.ensures)
    (all_from_yields_List (λ i. p (get_or (decode_map c.args.s.now).devices i no_device)) _ _ _ c.all.ensures.ran
    (YieldsList-from_range 0 c.device_count.result _ refl refl) (λ x b q k. search rules)
    ∙ all_rows p no_device _ c.device_count.ensures)
