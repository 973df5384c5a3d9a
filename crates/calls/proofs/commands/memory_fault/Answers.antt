-- `calls::commands::memory_fault` meets its contract. Assumes nothing.
use Rattle.calls.proofs.Boxes.{fault_length, fault_early, fault_unplaced, fault_running, fault_none}
use Rattle.calls.proofs.commands.memory_fault.Goals as goal

pub returns-then-len-memory : goal.returns-then-len-memory
returns-then-len-memory c = fault_length _ _ _ c.load_memory-memory.ensures c.if-len-memory.true

pub returns-then-control-ne1 : goal.returns-then-control-ne1
returns-then-control-ne1 c =
    fault_early _ _ _ c.load_memory-memory.ensures c.if-len-memory.false _ c.load_control-control.ensures c.if-control-ne1.true

pub returns-then-devices-ne1 : goal.returns-then-devices-ne1
returns-then-devices-ne1 c =
    fault_unplaced _ _ _ c.load_memory-memory.ensures c.if-len-memory.false _ c.load_control-control.ensures c.if-control-ne1.false
    _ c.load_tables.ensures c.if-devices-ne1.true

pub returns-then-control-eq1 : goal.returns-then-control-eq1
returns-then-control-eq1 c =
    fault_running _ _ _ c.load_memory-memory.ensures c.if-len-memory.false _ c.load_control-control.ensures c.if-control-ne1.false
    _ c.load_tables.ensures c.if-devices-ne1.false c.if-control-eq1.true

pub returns : goal.returns
returns c =
    fault_none _ _ _ c.load_memory-memory.ensures c.if-len-memory.false _ c.load_control-control.ensures c.if-control-ne1.false
    _ c.load_tables.ensures c.if-devices-ne1.false c.if-control-eq1.false
