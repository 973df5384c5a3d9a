-- `restore::visit_device` meets its contract. Assumes nothing.
use borrow.Author.Rules.{rules}
use Rattle.std.proofs.lemmas.Result.{err_from_is_err_and}
use Rattle.codes.specs.declared.Place.TheVariants.{Device}
use Rattle.tables.specs.Restored.{visit_device}
use Rattle.restore.proofs.Over.{counted}
use Rattle.restore.proofs.Answers.{kind_stops, kind_none}
use Rattle.restore.proofs.Devices.{memory_loaded, memory_long, allowed, area_inside, itt_few, device_stops, device_begun, device_goes}
use Rattle.restore.proofs.visit_device.Goals as goal

pub returns-in_err-map_err : goal.returns-in_err-map_err
returns-in_err-map_err c =
    let a = c.args in
    let p = err_from_is_err_and c.from_residual.result c.from_residual.ensures.1 in
    rw (p.1, p.2)
    (kind_stops (Device a.i) c.requires.3 (λ m. visit_device m a.mem.now a.t.now a.good a.i) _ _ _ (λ k f q. search rules) c.device_fault.result
    (device_stops _ _ _ _ _ _ c.entry_at.ensures c.device_entry-e.ensures _ c.device_fault.ensures a.mem.now)
    _ c.map_err.ensures.cases _ c.in_err-map_err.was)

pub itt_area-requires : goal.itt_area-requires
itt_area-requires c =
    let y = kind_none _ c.device_fault.result _ c.map_err.ensures.cases c.in_ok-map_err.was in
    (allowed _ _ _ _ (rw y at c.device_fault.ensures)).size

pub area_bytes-itt-requires : goal.area_bytes-itt-requires
area_bytes-itt-requires c =
    let y = kind_none _ c.device_fault.result _ c.map_err.ensures.cases c.in_ok-map_err.was in (
      area_inside _ _ _ (allowed _ _ _ _ (rw y at c.device_fault.ensures)) _ (memory_loaded _ _ c.load_memory.ensures) _ c.itt_area.ensures,
      memory_long _ _ c.load_memory.ensures _ c.requires.1,
    )

pub add_device-requires : goal.add_device-requires
add_device-requires c =
    let y = kind_none _ c.device_fault.result _ c.map_err.ensures.cases c.in_ok-map_err.was in
    (counted c.requires.0.over, (allowed _ _ _ _ (rw y at c.device_fault.ensures)).room)

pub read_events-requires : goal.read_events-requires
read_events-requires c =
    let y = kind_none _ c.device_fault.result _ c.map_err.ensures.cases c.in_ok-map_err.was in (
      device_begun _ _ _ _ _ _ c.entry_at.ensures c.device_entry-e.ensures _ c.device_fault.ensures y c.requires.3 _ c.add_device.ensures c.requires.0,
      itt_few _ _ _ (allowed _ _ _ _ (rw y at c.device_fault.ensures)) _ (memory_loaded _ _ c.load_memory.ensures) _ c.itt_area.ensures _ _ c.area_bytes-itt.ensures,
    )

pub returns : goal.returns
returns c =
    let y = kind_none _ c.device_fault.result _ c.map_err.ensures.cases c.in_ok-map_err.was in
    device_goes _ _ _ _ _ _ c.entry_at.ensures c.device_entry-e.ensures _ c.device_fault.ensures y c.requires.3 _ c.add_device.ensures
    _ _ (memory_loaded _ _ c.load_memory.ensures) _ c.itt_area.ensures _ c.area_bytes-itt.ensures _ _ c.read_events.ensures
