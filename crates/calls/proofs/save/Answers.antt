use mathlib.Core.Path.{◌≡◌, sym}
use Rattle.std.proofs.Common.{rules, Err}
use Rattle.calls.proofs.Laws.{checked, parts}
use Rattle.calls.proofs.Saving.{fault_placed, fault_long, save_refuses, save_fails, save_done}
use Rattle.calls.proofs.save.Goals as goal

pub returns-in_err-check : goal.returns-in_err-check
returns-in_err-check c =
    let e = c.in_err-check.field-0.0 in
    let back : c.from_residual.result ≡ Err e = search rules in
    save_refuses _ _ e back c.in_err-check.ensures

pub memory_fault-requires : goal.memory_fault-requires
memory_fault-requires c = (checked _ c.in_ok-check.ensures).0

pub returns-in_err-memory_fault : goal.returns-in_err-memory_fault
returns-in_err-memory_fault c =
    let e = c.in_err-memory_fault.field-0.0 in
    let back : c.from_residual-in_err-memory_fault.result ≡ Err e = search rules in
    save_fails _ _ c.in_ok-check.ensures e back c.in_err-memory_fault.ensures

pub save_tables-requires : goal.save_tables-requires
save_tables-requires c =
    let k = checked _ c.in_ok-check.ensures in
    let p = parts _ k.1 in
    let y = sym c.in_ok-memory_fault.ensures in
    record {
      counted = record { long = k.0; counts = p.counts };
      mapped = record { long = k.0; counts = p.map_counts_lem };
      guest = p.guest;
      mapping = p.mapping;
      placed = fault_placed _ _ y;
      long = fault_long _ _ y;
    }

pub returns : goal.returns
returns c = save_done _ _ c.in_ok-check.ensures _ c.in_ok-memory_fault.ensures c.save_tables.ensures
