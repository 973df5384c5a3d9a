-- `show::text::show_image` meets its contract. Assumes nothing.
use mathlib.Core.Path.{sym, ap, ◌∙◌}
use borrow.Author.Rules.{rules}
use Rattle.guest.specs.Returned as returned
use Rattle.image.proofs.Stored.{restorable}
use Rattle.show.proofs.Whole.{shown_no_image, shown_fault, loadable, shown_rows}
use Rattle.show.proofs.text.show_image.Goals as goal

pub returns-then-not-is_image : goal.returns-then-not-is_image
returns-then-not-is_image c =
    c.put_refusal.ensures ∙ shown_no_image _ (sym c.is_image.ensures ∙ c.if-not-is_image.true)

pub restore_tables-requires : goal.restore_tables-requires
restore_tables-requires c =
    let e = sym c.is_image.ensures ∙ c.if-not-is_image.false in
    restorable _ e _ (search rules) _ c.store_guest_of.ensures

pub load_mapping-requires : goal.load_mapping-requires
load_mapping-requires c =
    let e = sym c.is_image.ensures ∙ c.if-not-is_image.false in
    loadable _ e _ (search rules) _ c.store_guest_of.ensures _ _ c.restore_tables.ensures (ap returned.fault c.in-Ok.is)

pub returns-in-Ok : goal.returns-in-Ok
returns-in-Ok c =
    let e = sym c.is_image.ensures ∙ c.if-not-is_image.false in
    c.fill_text.ensures
    ∙ shown_rows _ e _ (search rules) _ c.store_guest_of.ensures _ _ c.restore_tables.ensures (ap returned.fault c.in-Ok.is) _ c.load_mapping.ensures.0

pub returns-in-Err : goal.returns-in-Err
returns-in-Err c =
    let e = sym c.is_image.ensures ∙ c.if-not-is_image.false in
    c.put_refusal-in-Err.ensures ∙ shown_fault _ e _ (search rules) _ c.store_guest_of.ensures _ _ c.restore_tables.ensures _ c.in-Err.is
