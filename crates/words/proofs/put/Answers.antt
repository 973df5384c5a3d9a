use mathlib.Core.Path.{◌∙◌}
use native.Mathlib.Omega.{arith}
use lib.ListN.{drop, length-drop}
use lib.Seq.{length-take-le}
use Rattle.words.proofs.Laws.{put_part}
use Rattle.words.proofs.put.Goals as goal

pub returns : goal.returns
returns g c =
    put_part c.args.s.now _ c.args.at _ _ _ c.args.v c.fill.ensures
    (length-take-le _ (drop c.args.at c.args.s.now) (simp length-drop (omega (arith, c.requires))) ∙ omega arith)
    (omega arith)
