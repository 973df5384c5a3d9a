-- `explain::text::explain_image` meets its contract. Assumes nothing.
use mathlib.Core.Path.{sym, ◌∙◌}
use borrow.Author.Rules.{rules}
use Rattle.image.proofs.Stored.{restorable}
use Rattle.explain.proofs.Whole.{explained_no_image, explained_found, explained_fault}
use Rattle.explain.proofs.text.explain_image.Goals as goal

pub returns-then-not-is_image : goal.returns-then-not-is_image
returns-then-not-is_image c =
    c.early.ensures ∙ explained_no_image _ (sym c.is_image.ensures ∙ c.if-not-is_image.true)

pub read_tables-requires : goal.read_tables-requires
read_tables-requires c =
    let e = sym c.is_image.ensures ∙ c.if-not-is_image.false in
    restorable _ e _ (search rules) _ c.store_guest_of.ensures

pub returns-in-Ok : goal.returns-in-Ok
returns-in-Ok c =
    let e = sym c.is_image.ensures ∙ c.if-not-is_image.false in
    c.described.ensures ∙ explained_found _ e _ (search rules) _ c.store_guest_of.ensures _ _ c.read_tables.ensures _ c.in-Ok.is

pub returns-in-Err : goal.returns-in-Err
returns-in-Err c =
    let e = sym c.is_image.ensures ∙ c.if-not-is_image.false in
    c.fault_line.ensures ∙ explained_fault _ e _ (search rules) _ c.store_guest_of.ensures _ _ c.read_tables.ensures _ c.in-Err.is
