use mathlib.Core.Path.{◌≡◌, sym}
use Rattle.std.proofs.Common.{rules, Err}
use Rattle.calls.proofs.Laws.{checked}
use Rattle.calls.proofs.Restoring.{restorable, as_of}
use Rattle.calls.proofs.Explaining.{explain_refuses, explain_unready, explain_reads}
use Rattle.calls.proofs.explain.Goals as goal

pub returns-in_err-check : goal.returns-in_err-check
returns-in_err-check c =
    let e = c.in_err-check.field-0.0 in
    let back : c.from_residual.result ≡ Err e = search rules in
    explain_refuses _ _ e back c.in_err-check.ensures

pub copy_of-next-requires : goal.copy_of-next-requires
copy_of-next-requires c = (checked _ c.in_ok-check.ensures).0

pub memory_fault-requires : goal.memory_fault-requires
memory_fault-requires c = (checked _ c.in_ok-check.ensures).0

pub returns-in_err-memory_fault : goal.returns-in_err-memory_fault
returns-in_err-memory_fault c =
    let e = c.in_err-memory_fault.field-0.0 in
    let back : c.from_residual-in_err-memory_fault.result ≡ Err e = search rules in
    explain_unready _ _ c.in_ok-check.ensures e back c.in_err-memory_fault.ensures

pub read_tables-requires : goal.read_tables-requires
read_tables-requires c =
    let k = checked _ c.in_ok-check.ensures in
    restorable _ k.0 k.1 _ (sym c.in_ok-memory_fault.ensures) _ (search rules)

pub returns : goal.returns
returns c =
    explain_reads _ _ c.in_ok-check.ensures c.in_ok-memory_fault.ensures c.read_tables.result _ (as_of _ (search rules) c.read_tables.ensures) c.code_of.ensures
