use native.Mathlib.Omega.{arith}
use mathlib.Core.Path.{◌≡◌, sym}
use lib.ListN.{length}
use lib.Seq.{length-take-le}
use Rattle.mapping.specs.Mapped.{rows}
use Rattle.maplayout.proofs.Stored.{stored_of}
use borrow.Author.Rules.{rules}
use Rattle.maplayout.proofs.store_mapping.Goals as goal

pub returns : goal.returns
returns c =
    let k = c.args.k in
    let ld : length k.devices ≡ 32 = search rules in
    let lc : length k.collections ≡ 16 = search rules in
    let le : length k.events ≡ 1024 = search rules in
    let w = c.requires.1 in
    stored_of (rows k) _ _ _ _ _ _ _ _ (sym (length-take-le _ k.devices (omega arith)))
    (sym (length-take-le _ k.collections (omega arith))) (sym (length-take-le _ k.events (omega arith)))
    c.store_rows.ensures c.store_rows-2.ensures c.store_rows-3.ensures c.store_words.ensures
