-- `restore::device_fault` meets its contract. Assumes nothing.
use Rattle.restore.proofs.Devices.{memory_loaded, fault_next_lem, fault_size_lem, fault_full, fault_outside_lem, fault_struck, fault_none}
use Rattle.restore.proofs.device_fault.Goals as goal

pub returns-then-not-leads : goal.returns-then-not-leads
returns-then-not-leads c = fault_next_lem _ _ _ _ (c.if-not-leads.true)

pub returns-then-bits-gt-MAX_BITS : goal.returns-then-bits-gt-MAX_BITS
returns-then-bits-gt-MAX_BITS c = fault_size_lem _ _ _ _ (c.if-not-leads.false) c.if-bits-gt-MAX_BITS.true

pub returns-then-n-ge-MAX_DEVICES : goal.returns-then-n-ge-MAX_DEVICES
returns-then-n-ge-MAX_DEVICES c =
    fault_full _ _ _ _ (c.if-not-leads.false) c.if-bits-gt-MAX_BITS.false _ c.device_count-n.ensures c.if-n-ge-MAX_DEVICES.true

pub returns-then-not-inside : goal.returns-then-not-inside
returns-then-not-inside c =
    fault_outside_lem _ _ _ _ (c.if-not-leads.false) c.if-bits-gt-MAX_BITS.false _ c.device_count-n.ensures c.if-n-ge-MAX_DEVICES.false _ (memory_loaded _ _ c.load_memory.ensures) _ _
    c.memory_area.ensures c.itt_area-a.ensures _ c.inside.ensures (c.if-not-inside.true)

pub returns-then-strikes_tables : goal.returns-then-strikes_tables
returns-then-strikes_tables c =
    fault_struck _ _ _ _ (c.if-not-leads.false) c.if-bits-gt-MAX_BITS.false _ c.device_count-n.ensures c.if-n-ge-MAX_DEVICES.false _ (memory_loaded _ _ c.load_memory.ensures) _ _
    c.memory_area.ensures c.itt_area-a.ensures _ c.inside.ensures (c.if-not-inside.false) _ c.strikes_tables.ensures c.if-strikes_tables.true

pub returns : goal.returns
returns c =
    fault_none _ _ _ _ (c.if-not-leads.false) c.if-bits-gt-MAX_BITS.false _ c.device_count-n.ensures c.if-n-ge-MAX_DEVICES.false _ (memory_loaded _ _ c.load_memory.ensures) _ _
    c.memory_area.ensures c.itt_area-a.ensures _ c.inside.ensures (c.if-not-inside.false) _ c.strikes_tables.ensures c.if-strikes_tables.false
