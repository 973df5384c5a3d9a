-- `mapcheck::keys_rise` meets its contract. Assumes nothing.
use Prim.Native.Nat.{◌-◌}
use mathlib.Core.Path.{refl, ◌∙◌}
use lib.Dec.{ltb}
use lib.ListN.{get_or}
use Rattle.std.proofs.Common.{rules}
use Rattle.std.proofs.lemmas.Iterator.{YieldsList-from_range}
use Rattle.std.proofs.lemmas.Iterator.Search.{all_from_yields_List}
use Rattle.mapcheck.proofs.Loops.{keys_above}
use Rattle.mapcheck.proofs.keys_rise.Goals as goal

pub returns : goal.returns
returns g c =
    λ l d r. all_from_yields_List (λ i. ltb (g.T.Keyed.key (get_or l (i - 1) d)) (g.T.Keyed.key (get_or l i d))) _ _ _ c.all.ensures.ran
    (YieldsList-from_range 1 c.args.n _ refl refl) (λ x b q k. search (rules, r.row)) ∙ keys_above g.T.Keyed.key d l r.count
