-- Every definition that a run of calls computes with, under one name: a proof that says `unfolding computed` has them all.
use Prim.Native.Nat.{ℕ}
use Rattle.areas.specs.Area.{overlaps, ends_by, inside, struck, strikes, apart}
use Rattle.banks.specs.Bank.{pending, raised, lowered, lined, trimmed}
use Rattle.calls.specs.Call.{changes, asks, value_of, set_up, commands, looks, saves, restores, explains}
use Rattle.calls.specs.Commands.{on_mapping, place, reset, lookup_step, memory_fault}
use Rattle.calls.specs.Groups.{set_group4, vgic_set, vgic_get, set_its_group4, its_set, its_get}
use Rattle.state.specs.Sound.{sound}
use Rattle.chains.specs.Slots.{scan, first_from, following, path}
use Rattle.entries.specs.Collection.{is_collection, collection_of, collection_word}
use Rattle.entries.specs.Device.{is_device, device_of, device_word}
use Rattle.entries.specs.Event.{is_event, event_of, event_word}
use Rattle.fields.specs.Field.{get_field, put_field}
use Rattle.frames.specs.Bases.{area_fault, frame_fault, set_distributor, single_fault, set_single, set_its_base, word_region, region_word, region_fault, add_region, set_group0, get_single, get_region, get_group0, set_its_group0, get_its_group0}
use Rattle.frames.specs.Init.{has_places, vgic_init, locate, redist_base}
use Rattle.frames.specs.Vcpus.{add_vcpu, set_running, set_irqs, get_irqs, its_init}
use Rattle.guest.specs.Machine.{bank_bits}
use Rattle.irqs.specs.Irqs.{irq_fault, irq_pending, irq_set, irq_clear, irq_line, irq_trigger}
use Rattle.irqs.specs.Registers.{distributor_register, redistributor_register, access_fault, set_group1, get_group1, group5_fault, set_group5, get_group5, group7_fault, level_spot, set_group7, get_group7}
use Rattle.irqs.specs.Spots.{shared_spot, spot_of}
use Rattle.layout.specs.Layout.{memory_of, control_of, frames_of, tables_of, region_of, region_bytes, vcpu_of, vcpu_bytes, bank_of, bank_bytes, decode, head_bytes, stored, counts_ok}
use Rattle.lists.specs.Rows.{find_ix, all}
use Rattle.maplayout.specs.MapLayout.{device_bytes, collection_bytes, event_bytes, decode_map, count_bytes, stored_map, map_counts_ok}
use Rattle.mapping.specs.Commands.{table_areas, device_fault, map_device, unmap_device, map_collection, unmap_collection, event_fault, map_event, discard, move, lookup, well_formed, place_fault}
use Rattle.mapping.specs.MapRules.{device_ok, collection_ok, event_ok, mapping_ok, map_rules}
use Rattle.mapping.specs.Mapped.{inserted_at, removed_at, kept, rising}
use Rattle.rules.specs.Rules.{memory_ok, irqs_ok, control_ok, frame_ok, region_ok, frames_ok, init_ok, taken, distinct, vcpu_ok, vcpus_ok, bank_fits, last_ok, fresh_bank, fresh_vcpu, untouched, table_ok, tables_ok, its_ok, rules}
use Rattle.rules.specs.Standing.{standing, others, total}
use Rattle.tables.specs.Bytes.{entry_at, area_bytes, device_slots, event_slots}
use Rattle.tables.specs.Restored.{run, walk, visit_collection, read_collections, visit_event, read_events, visit_device, read_devices, restored}
use Rattle.tables.specs.Saved.{next_of, chain_word, saved_collection, table_of, saved_itts, saved_memory}
use Rattle.words.specs.Words.{le, bytes_of, le_at, put_at, rows_of, bytes_all}
use Rattle.maplayout.specs.MapLayout.{device_of as deviceRow, collection_of as collectionRow, event_of as eventRow}

unfoldable pub computed : ℕ
unfolding overlaps ends_by inside struck strikes apart pending raised lowered lined trimmed changes asks value_of set_up commands looks saves restores explains on_mapping place reset lookup_step memory_fault set_group4 vgic_set vgic_get set_its_group4 its_set its_get sound scan first_from following path is_collection collection_of collection_word is_device device_of device_word is_event event_of event_word get_field put_field area_fault frame_fault set_distributor single_fault set_single set_its_base word_region region_word region_fault add_region set_group0 get_single get_region get_group0 set_its_group0 get_its_group0 has_places vgic_init locate redist_base add_vcpu set_running set_irqs get_irqs its_init bank_bits irq_fault irq_pending irq_set irq_clear irq_line irq_trigger distributor_register redistributor_register access_fault set_group1 get_group1 group5_fault set_group5 get_group5 group7_fault level_spot set_group7 get_group7 shared_spot spot_of memory_of control_of frames_of tables_of region_of region_bytes vcpu_of vcpu_bytes bank_of bank_bytes decode head_bytes stored counts_ok find_ix all device_bytes collection_bytes event_bytes decode_map count_bytes stored_map map_counts_ok table_areas device_fault map_device unmap_device map_collection unmap_collection event_fault map_event discard move lookup well_formed place_fault device_ok collection_ok event_ok mapping_ok map_rules inserted_at removed_at kept rising memory_ok irqs_ok control_ok frame_ok region_ok frames_ok init_ok taken distinct vcpu_ok vcpus_ok bank_fits last_ok fresh_bank fresh_vcpu untouched table_ok tables_ok its_ok rules standing others total entry_at area_bytes device_slots event_slots run walk visit_collection read_collections visit_event read_events visit_device read_devices restored next_of chain_word saved_collection table_of saved_itts saved_memory le bytes_of le_at put_at rows_of bytes_all deviceRow collectionRow eventRow
computed = 0
