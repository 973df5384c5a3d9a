-- `restore::places::strikes_itts` meets its contract. Assumes nothing.
use native.Mathlib.Omega.{arith}
use mathlib.Core.Path.{refl}
use lib.ListN.{get_or}
use borrow.Author.Rules.{rules}
use borrow.Author.Tests.{tests}
use Rattle.std.proofs.lemmas.Iterator.{YieldsList-from_range}
use Rattle.std.proofs.lemmas.Iterator.Search.{any_from_yields_List}
use Rattle.mapping.specs.Mapped.{no_device}
use Rattle.maplayout.specs.MapLayout.{decode_map}
use Rattle.restore.proofs.Searches.{meets, itts_met}
use Rattle.restore.proofs.places.strikes_itts.Goals as goal

pub returns : goal.returns
returns c =
    let rows = (decode_map c.args.s.now).devices in
    let n = c.device_count-n.result in
    itts_met rows c.args.a n c.device_count-n.ensures c.any.result
    (any_from_yields_List (λ i. meets rows c.args.a (get_or rows i no_device)) _ _ c.any.result c.any.ensures.ran (YieldsList-from_range 0 n n refl (omega arith)) (λ x b q k. search (rules, tests)))
