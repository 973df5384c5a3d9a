use native.Mathlib.Omega.{arith}
use mathlib.Core.Path.{◌≡◌, sym}
use lib.ListN.{length}
use lib.Seq.{length-take-le}
use Rattle.guest.specs.Machine.{view}
use Rattle.layout.proofs.Stored.{stored_of}
use borrow.Author.Rules.{rules}
use Rattle.layout.proofs.store_guest.Goals as goal

pub returns : goal.returns
returns c =
    let g = c.args.g in
    let lr : length g.regions.rows ≡ 32 = search rules in
    let lv : length g.vcpus.rows ≡ 64 = search rules in
    let hr = c.requires.1.regions in
    let hv = c.requires.1.vcpus in
    stored_of (view g) _ _ _ _ _ _ _ (sym (length-take-le _ g.regions.rows (omega arith))) (sym (length-take-le _ g.vcpus.rows (omega arith)))
    c.store_rows.ensures c.store_rows-2.ensures c.store_rows-3.ensures c.store_head.ensures
