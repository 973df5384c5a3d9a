-- `naming::kind_of` meets its contract. Assumes nothing.
use borrow.Author.Rules.{rules}
use mathlib.Core.Path.{◌≡◌, sym, ap, ◌∙◌}
use Rattle.tables.specs.Fault.{Kind, kind_number}
use Rattle.codes.specs.Codes.{kind_is}
use Rattle.naming.specs.Naming.{kind_of}
use Rattle.naming.proofs.Codes.{kind_number_lem, kind_other}
use Rattle.naming.proofs.kind_of.Goals as goal

pub returns-in-Ok : goal.returns-in-Ok
returns-in-Ok c =
    let e : c.args.n ≡ kind_number (kind_is c.in-Ok.kind) = search rules in
    sym (ap kind_of e ∙ kind_number_lem (kind_is c.in-Ok.kind))

pub returns-in-Err : goal.returns-in-Err
returns-in-Err c =
    let h : (k : Kind) → c.args.n ≡ kind_number k → ⊥ = search rules in
    kind_other c.args.n h
