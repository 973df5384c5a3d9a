use mathlib.Core.Path.{◌≡◌, sym}
use Rattle.std.proofs.Common.{rules, Err}
use Rattle.calls.proofs.Laws.{checked}
use Rattle.calls.proofs.Restoring.{restorable, as_of, restore_refuses, restore_unready, restore_faulty, restore_done}
use Rattle.calls.proofs.restore.Goals as goal

pub returns-in_err-check : goal.returns-in_err-check
returns-in_err-check c =
    let e = c.in_err-check.field-0.0 in
    let back : c.from_residual.result ≡ Err e = search rules in
    restore_refuses _ _ e back c.in_err-check.ensures

pub copy_of-next-requires : goal.copy_of-next-requires
copy_of-next-requires c = (checked _ c.in_ok-check.ensures).0

pub memory_fault-requires : goal.memory_fault-requires
memory_fault-requires c = (checked _ c.in_ok-check.ensures).0

pub returns-in_err-memory_fault : goal.returns-in_err-memory_fault
returns-in_err-memory_fault c =
    let e = c.in_err-memory_fault.field-0.0 in
    let back : c.from_residual-in_err-memory_fault.result ≡ Err e = search rules in
    restore_unready _ _ c.in_ok-check.ensures e back c.in_err-memory_fault.ensures

pub restore_tables-requires : goal.restore_tables-requires
restore_tables-requires c =
    let k = checked _ c.in_ok-check.ensures in
    restorable _ k.0 k.1 _ (sym c.in_ok-memory_fault.ensures) _ (search rules)

pub returns-in_err-restore_tables : goal.returns-in_err-restore_tables
returns-in_err-restore_tables c =
    let e = c.in_err-restore_tables.field-0.0 in
    let back : c.from_residual-in_err-restore_tables.result ≡ Err e = search rules in
    restore_faulty _ _ c.in_ok-check.ensures c.in_ok-memory_fault.ensures e back (as_of _ (search rules) c.in_err-restore_tables.ensures)

pub returns : goal.returns
returns c = restore_done _ _ c.in_ok-check.ensures c.in_ok-memory_fault.ensures _ (as_of _ (search rules) c.in_ok-restore_tables.ensures) (search rules)
