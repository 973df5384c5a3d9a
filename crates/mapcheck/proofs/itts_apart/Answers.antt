-- `mapcheck::itts_apart` meets its contract. Assumes nothing.
use Prim.Native.Nat.{◌+◌}
use mathlib.Core.Path.{refl, ◌∙◌}
use mathlib.Core.Bool.{not}
use mathlib.Core.List.{map}
use lib.ListN.{get_or, drop}
use Rattle.std.proofs.Common.{rules}
use Rattle.std.proofs.lemmas.Iterator.{YieldsList-from_range}
use Rattle.std.proofs.lemmas.Iterator.Search.{all_from_yields_List}
use Rattle.areas.specs.Area.{strikes}
use Rattle.mapping.specs.Mapped.{itt_area, no_device}
use Rattle.maplayout.specs.MapLayout.{decode_map}
use Rattle.mapcheck.proofs.Overlaps.{all_apart}
use Rattle.mapcheck.proofs.itts_apart.Goals as goal

pub returns : goal.returns
returns c =
    let l = (decode_map c.args.s.now).devices in
    all_from_yields_List (λ i. not (strikes (map itt_area (drop (i + 1) l)) (itt_area (get_or l i no_device)))) _ _ _ c.all.ensures.ran
    (YieldsList-from_range 0 c.device_count.result _ refl refl) (λ x b q k. search rules)
    ∙ all_apart _ _ c.device_count.ensures
