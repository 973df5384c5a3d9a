-- `mapcheck::strikes_itts` meets its contract. Assumes nothing.
use mathlib.Core.Path.{refl, ◌∙◌}
use lib.ListN.{get_or}
use Rattle.std.proofs.Common.{rules}
use Rattle.std.proofs.lemmas.Iterator.{YieldsList-from_range}
use Rattle.std.proofs.lemmas.Iterator.Search.{any_from_yields_List}
use Rattle.areas.specs.Area.{overlaps}
use Rattle.mapping.specs.Mapped.{itt_area, no_device}
use Rattle.maplayout.specs.MapLayout.{decode_map}
use Rattle.mapcheck.proofs.Overlaps.{any_struck}
use Rattle.mapcheck.proofs.strikes_itts.Goals as goal

pub returns : goal.returns
returns c =
    any_from_yields_List (λ i. overlaps c.args.a (itt_area (get_or (decode_map c.args.s.now).devices i no_device))) _ _ _ c.any.ensures.ran
    (YieldsList-from_range c.args.from c.device_count.result _ refl refl) (λ x b q k. search rules)
    ∙ any_struck _ _ _ _ c.device_count.ensures c.requires.1
